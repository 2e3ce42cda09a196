use Rattle.std.proofs.Common.{◌≡◌, max, arith}
use Rattle.fastbloom_c.proofs.counted_rates.fastbloom_rate_now.Goals as goal

pub returns-clause-bounds : goal.returns-clause-bounds
returns-clause-bounds c told =
    let at_least_one : c.max.result ≡ max 1 c.args.num_hashes = omega (arith, c.max.ensures) in
    record {
      part = c.rate_of-now.result;
      holds = rw (at_least_one) at c.rate_of-now.ensures;
      is_low = c.low.ensures;
      is_high = c.high.ensures;
    }
