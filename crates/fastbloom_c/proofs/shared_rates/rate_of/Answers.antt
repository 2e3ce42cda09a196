use Rattle.std.proofs.Common.{◌≡◌, ◌*◌, ap, arith}
use Rattle.bloom_parts.specs.Content.{content}
use Rattle.bloom_parts.proofs.PublishedLemmas.{count-most}
use Rattle.fastbloom_c.proofs.shared_rates.rate_of.Goals as goal

-- no more bits are set than there are
pub false_pos_of_ones-requires-clause-ones : goal.false_pos_of_ones-requires-clause-ones
false_pos_of_ones-requires-clause-ones c =
    let counts = c.count_ones.ensures in
    let size : c.new.result.count ≡ c.args.words.now.len = ap (λ v. v.count) c.new.ensures in
    omega (
      arith,
      counts.counted,
      count-most (content counts.words) (64 * c.new.result.count),
      size,
      c.len.ensures,
    )
