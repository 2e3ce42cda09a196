-- Bounds of a rate as two numbers, since a bracket doesn't cross to C.
use Rattle.std.specs.Prelude.{ℕ, ◌-◌, ◌*◌, ◌^◌, ◌≤◌}

-- the rate of false positives of b bits and k hashes, after t positions were set, each time any of
-- them alike, lies between two bounds in units of 2^-63
pub record HoldRate (low high b t k : ℕ) : Type 0 where
  pub at_least : low * b ^ (t * k) ≤ 2 ^ 63 * (b ^ t - (b - 1) ^ t) ^ k
  pub at_most : 2 ^ 63 * (b ^ t - (b - 1) ^ t) ^ k ≤ high * b ^ (t * k)
