-- Rates, which are fractions above zero. That their parts stay as given is this project's choice.
use Rattle.std.specs.Prelude.{ℕ, ◌*◌, Bool, ◌||◌, ◌==◌, nat_eq, Option, Some, None, if◌then◌else◌}
use Rattle.bloom_parts.specs.declared.error.FilterError.{FilterError}
use Rattle.bloom_parts.specs.declared.error.FilterError.TheVariants.{ZeroRate}
use Rattle.bloom_parts.specs.declared.math.rate.Rate.{Rate}

-- the upper part of a rate
abbrev pub num_of : Rate → ℕ
num_of rate = rate.num

-- the lower part of a rate
abbrev pub den_of : Rate → ℕ
den_of rate = rate.den

-- why a rate of these parts is refused, if it is
abbrev pub rate_refusal : ℕ → ℕ → Option FilterError
rate_refusal num den = if nat_eq num 0 || nat_eq den 0 then Some ZeroRate else None

-- whether two rates are one fraction: their cross products are equal
abbrev pub same_rate : Rate → Rate → Bool
same_rate a b = num_of a * den_of b == num_of b * den_of a
