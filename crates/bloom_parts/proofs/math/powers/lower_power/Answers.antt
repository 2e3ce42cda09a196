use Rattle.std.proofs.Common.{arith, refl}
use Rattle.bloom_parts.proofs.PowerDigits.{power-start, power-one, power-zero, power-end}
use Rattle.bloom_parts.proofs.math.powers.lower_power.Goals as goal

pub digits-init : goal.digits-init
digits-init c = power-start _ _ _ _ (omega arith) c.requires.none

pub digits-preserved-then-exponent-i-eq1 : goal.digits-preserved-then-exponent-i-eq1
digits-preserved-then-exponent-i-eq1 c =
    power-one _ _ _ _ c.digits.invariant c.digits-test.true (omega arith) c.down-power.ensures
    c.if-exponent-i-eq1.true c.down-power-then-exponent-i-eq1.ensures

pub digits-preserved : goal.digits-preserved
digits-preserved c =
    power-zero _ _ _ _ c.digits.invariant c.digits-test.true (omega arith) c.down-power.ensures
    c.if-exponent-i-eq1.false

pub returns : goal.returns
returns c = power-end _ _ _ _ refl c.digits.invariant (omega arith) (omega arith)
