use Rattle.std.proofs.Common.{◌*◌, arith}
use Rattle.bloom_parts.proofs.DensityLemmas.{density-none}
use Rattle.bloom_parts.proofs.math.estimated.upper_bound.Goals as goal

-- no bit is expected to be set of no items, and some is
pub last_passing-requires-clause-zero : goal.last_passing-requires-clause-zero
last_passing-requires-clause-zero c =
    let filled = c.args.filled in
    let (none, _) = density-none filled.bits (filled.hashes * 0) filled.some (omega arith) in
    rw none (omega (arith, c.if-filled-eq0.false))
