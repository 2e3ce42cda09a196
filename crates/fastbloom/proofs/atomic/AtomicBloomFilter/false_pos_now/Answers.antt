use Rattle.std.proofs.Common.{◌*◌, arith, subst}
use Rattle.bloom_parts.specs.Content.{content}
use Rattle.bloom_parts.specs.FalsePositives.{BoundsPositives}
use Rattle.bloom_parts.proofs.PublishedLemmas.{count-most}
use Rattle.fastbloom.proofs.atomic.AtomicBloomFilter.false_pos_now.Goals as goal

-- no more bits were set than there are
pub false_pos_of_ones-requires-clause-ones : goal.false_pos_of_ones-requires-clause-ones
false_pos_of_ones-requires-clause-ones g c =
    let counts = c.count_ones.ensures in
    let most = count-most (content counts.words) (64 * c.args.self.now.words.count) in
    omega (arith, counts.counted, most, c.num_bits.ensures.value)

-- the rate of the words as they were loaded
pub returns : goal.returns
returns g c =
    let ones = c.count_ones.result in
    let rate = c.false_pos_of_ones in
    let here = subst (λ f. BoundsPositives c.num_bits.result f.hashes ones rate.result)
    c.self.view_is rate.ensures in
    record {
      ones = ones;
      counts = c.count_ones.ensures;
      bounds = subst (λ b. BoundsPositives b c.args.self.now.hashes ones rate.result)
          c.num_bits.ensures.value here;
    }
