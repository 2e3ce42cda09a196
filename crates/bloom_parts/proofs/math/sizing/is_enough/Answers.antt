use Rattle.std.proofs.Common.{arith}
use Rattle.std.proofs.lemmas.Bool.{leb-true, le-leb}
use Rattle.bloom_parts.proofs.HalvingLemmas.{IsTest, test-halvings}
use Rattle.bloom_parts.proofs.math.sizing.is_enough.Goals as goal

test : (c : goal.After-root)
    → IsTest c.args.rate.num c.args.rate.den c.args.parts c.num.result c.den.result c.root.result
test c =
    test-halvings _ _ _ _ (omega arith) (omega arith) c.root.ensures c.requires.few
    c.requires.within _ _ c.num.ensures c.den.ensures

pub overflow_mul-result : goal.overflow_mul-result
overflow_mul-result c = omega (arith, (test c).fits)

pub returns : goal.returns
returns c = (
  (λ is. (test c).decides.0 (leb-true _ _ is)),
  (λ enough. le-leb _ _ ((test c).decides.1 enough)),
)
