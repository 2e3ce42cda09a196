use Rattle.std.proofs.Common.{◌≡◌, max, arith}
use Rattle.fastbloom_c.proofs.estimates.fastbloom_jaccard.Goals as goal

pub returns-clause-bounds : goal.returns-clause-bounds
returns-clause-bounds c told =
    let at_least_one : c.max.result ≡ max 1 c.args.num_hashes = omega (arith, c.max.ensures) in
    record {
      part = c.part_in_both-part.result;
      holds = rw (at_least_one) at c.part_in_both-part.ensures;
      is_low = c.low.ensures;
      is_high = c.high.ensures;
    }
