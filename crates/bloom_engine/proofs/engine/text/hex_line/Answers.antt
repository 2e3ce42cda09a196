use Rattle.std.proofs.Common.{arith}
use Rattle.bloom_engine.proofs.HexLemmas.{digits-more, digits-whole}
use Rattle.bloom_engine.proofs.engine.text.hex_line.Goals as goal

-- one more digit
pub digits-preserved : goal.digits-preserved
digits-preserved c =
    digits-more _ _ _ _ c.digits.invariant c.digits-test.true c.hex_digit.ensures

-- every digit
pub returns : goal.returns
returns c = digits-whole _ _ _ c.digits.invariant (omega arith)
