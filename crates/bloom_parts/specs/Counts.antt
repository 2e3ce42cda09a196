-- How many members a set of positions has. This project's own.
use Rattle.std.specs.Prelude.{ℕ, ◌+◌, zero, suc, Bool, if◌then◌else◌}

-- how many positions below n are in a set
unfoldable pub count_on : (ℕ → Bool) → ℕ → ℕ
count_on A zero = 0
count_on A (suc n) = count_on A n + (if A n then 1 else 0)
