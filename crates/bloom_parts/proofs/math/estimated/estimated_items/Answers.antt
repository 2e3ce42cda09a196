use Rattle.std.proofs.Common.{◌*◌, arith}
use Rattle.bloom_parts.proofs.DensityLemmas.{density-none}
use Rattle.bloom_parts.proofs.EstimateLemmas.{bounds-ordered}
use Rattle.bloom_parts.proofs.FoundBoundsLemmas.{estimates-items}
use Rattle.bloom_parts.proofs.math.estimated.estimated_items.Goals as goal

-- no bit is expected to be set of no items
pub last_passing-low-requires-clause-zero : goal.last_passing-low-requires-clause-zero
last_passing-low-requires-clause-zero c =
    let (_, none) =
    density-none c.args.bits (c.args.hashes * 0) (omega (arith, c.requires.bits)) (omega arith) in
    rw none (omega arith)

-- the bounds are ordered
pub new-requires : goal.new-requires
new-requires c =
    bounds-ordered c.args.bits c.args.hashes c.args.ones c.requires.bits c.requires.hashes
    (omega arith) c.last_passing-low.result (omega arith) c.last_passing-low.ensures.passes
    c.upper_bound.result c.upper_bound.ensures.fits c.upper_bound.ensures.ends

-- they are bounds, and as near as they can be told to be
pub returns : goal.returns
returns c =
    let lower = c.last_passing-low in
    let upper = c.upper_bound.ensures in
    estimates-items c.args.bits c.args.hashes c.args.ones c.requires.bits c.requires.hashes
    (omega arith) lower.result c.upper_bound.result (record {
      low_fits = omega arith;
      low_ends = lower.ensures.passes;
      low_last = λ room. omega (arith, lower.ensures.last (omega (arith, room)));
      fits = upper.fits;
      ends = upper.ends;
      first = upper.first;
      empty = upper.empty;
      none = upper.none;
    }) c.new.result c.new.ensures.low c.new.ensures.high
