use Rattle.std.proofs.Common.{arith, below_more}
use Rattle.std.proofs.lemmas.Bool.{both_ways}
use Rattle.bloom_parts.proofs.HalvingLemmas.{least-halvings, most-enough}
use Rattle.bloom_parts.proofs.math.sizing.halvings.Goals as goal

pub returns-then-is_enough-clause-value : goal.returns-then-is_enough-clause-value
returns-then-is_enough-clause-value c =
    least-halvings _ _ _ (c.is_enough.ensures.0 c.if-is_enough.true) c.tried.invariant

pub tried-preserved : goal.tried-preserved
tried-preserved c =
    below_more _ _ c.tried.invariant
    (λ enough. both_ways _ c.if-is_enough.false (c.is_enough.ensures.1 enough))

pub returns-clause-value : goal.returns-clause-value
returns-clause-value c =
    least-halvings _ _ 4096 (most-enough _ _ c.args.rate.num_above (omega arith))
    (λ fewer below. c.tried.invariant fewer (omega arith))
