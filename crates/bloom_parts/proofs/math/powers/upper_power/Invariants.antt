use Rattle.std.proofs.Common.{◌^◌}
use Rattle.bloom_parts.specs.Powers.{up_of}
use Rattle.bloom_parts.proofs.PowerDigits.{IsSoFar}
use Rattle.bloom_parts.proofs.math.powers.upper_power.Given as goal

-- the power to the digits so far, with its products counted
abbrev pub invariant-digits : goal.invariant-digits
invariant-digits l = IsSoFar (2 ^ 63) up_of l.base l.exponent l.i l.power l.products
