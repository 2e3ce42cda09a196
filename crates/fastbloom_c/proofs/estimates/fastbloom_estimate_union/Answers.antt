use Rattle.std.proofs.Common.{◌≡◌, max, arith}
use Rattle.fastbloom_c.proofs.estimates.fastbloom_estimate_union.Goals as goal

pub returns-clause-bounds : goal.returns-clause-bounds
returns-clause-bounds c told =
    let at_least_one : c.max.result ≡ max 1 c.args.num_hashes = omega (arith, c.max.ensures) in
    record {
      estimate = c.items_in_either.result;
      holds = rw (at_least_one) at c.items_in_either.ensures;
      is_low = c.tell.ensures.low;
      is_high = c.tell.ensures.high;
    }
