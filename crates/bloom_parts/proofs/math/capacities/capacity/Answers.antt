use Rattle.std.proofs.Common.{arith}
use Rattle.bloom_parts.proofs.RateBoundLemmas.{rate-none}
use Rattle.bloom_parts.proofs.math.capacities.capacity.Goals as goal

-- with no item no look-up errs
pub last_passing-requires-clause-zero : goal.last_passing-requires-clause-zero
last_passing-requires-clause-zero c =
    rw (rate-none c.args.bits c.args.hashes c.requires.bits c.requires.hashes (omega arith))
    (omega arith)
