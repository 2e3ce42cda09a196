-- Brackets of the density of a filter and of its rate of false positives, where positions fall on
-- each bit alike (B. H. Bloom, 1970). A bracket is two bounds of a fraction. The unit of 2^-63 and
-- the exact ends are this project's own.
use Rattle.std.specs.Prelude.{ℕ, ◌-◌, ◌*◌, ◌/◌, ◌^◌, ◌≤◌}
use Rattle.std.specs.Int.{div_ceil}
use Rattle.bloom_parts.specs.Powers.{lower_power_of, upper_power_of}
use Rattle.bloom_parts.specs.declared.math.bracket.Bracket.{Bracket}

-- the lower bound of a bracket
abbrev pub low_of : Bracket → ℕ
low_of bracket = bracket.low

-- the upper bound of a bracket
abbrev pub high_of : Bracket → ℕ
high_of bracket = bracket.high

-- how far the bounds are apart
abbrev pub width_of : Bracket → ℕ
width_of bracket = high_of bracket - low_of bracket

-- the fraction p / q lies between the bounds
pub record Holds (bracket : Bracket) (p q : ℕ) : Type 0 where
  pub at_least : low_of bracket * q ≤ 2 ^ 63 * p
  pub at_most : 2 ^ 63 * p ≤ high_of bracket * q

-- the share of b bits that is set after t of them were set, each time any of them alike: 1 - ((b -
-- 1) / b)^t
abbrev pub HoldsDensity : Bracket → ℕ → ℕ → Type 0
HoldsDensity bracket b t = Holds bracket (b ^ t - (b - 1) ^ t) (b ^ t)

-- the rate of false positives with k hashes: the density to the power k
abbrev pub HoldsRate : Bracket → ℕ → ℕ → ℕ → Type 0
HoldsRate bracket b t k = Holds bracket ((b ^ t - (b - 1) ^ t) ^ k) (b ^ (t * k))

-- the lower end of the density
abbrev pub density_low : ℕ → ℕ → ℕ
density_low b t = 2 ^ 63 - upper_power_of (div_ceil (2 ^ 63 * (b - 1)) b) t

-- the upper end of the density
abbrev pub density_high : ℕ → ℕ → ℕ
density_high b t = 2 ^ 63 - lower_power_of (2 ^ 63 * (b - 1) / b) t

-- the lower end of the rate: a power of the lower end of the density
abbrev pub rate_low : ℕ → ℕ → ℕ → ℕ
rate_low b t k = lower_power_of (density_low b t) k

-- the upper end of the rate: a power of the upper end of the density
abbrev pub rate_high : ℕ → ℕ → ℕ → ℕ
rate_high b t k = upper_power_of (density_high b t) k
