-- The roots of order 64 of the powers of two, by which halvings are counted in sixty-fourths. That
-- they have 32 binary digits after the point is this project's choice.
use Rattle.std.specs.Prelude.{ℕ, ◌+◌, ◌^◌, ◌<◌, ◌≤◌}

-- root j: the greatest number t whose power to 64 is at most 2^(2048 + j), so that t / 2^32 is the
-- root of order 64 of 2^j, rounded down
pub record IsRoot (j t : ℕ) : Type 0 where
  pub at_most : t ^ 64 ≤ 2 ^ (2048 + j)
  pub greatest : 2 ^ (2048 + j) < (t + 1) ^ 64
