use Rattle.std.proofs.Common.{◌^◌}
use Rattle.bloom_parts.specs.Powers.{down_of}
use Rattle.bloom_parts.proofs.PowerDigits.{IsSoFar}
use Rattle.bloom_parts.proofs.math.powers.lower_power.Given as goal

-- the power to the digits so far, with its products counted
abbrev pub invariant-digits : goal.invariant-digits
invariant-digits l = IsSoFar (2 ^ 63) down_of l.base l.exponent l.i l.power l.products
