-- Brackets of rates of false positives that are counts of draws: of one filter, and of one of
-- several. The unit of 2^-63 and the exact ends are this project's own.
use Rattle.std.specs.Prelude.{◌≡◌, ℕ, ◌+◌, ◌-◌, ◌*◌, ◌/◌, ◌^◌, ◌<◌, ◌≤◌, max, min, nat_eq, Bool, ◌||◌, if◌then◌else◌}
use Rattle.std.specs.Int.{div_ceil}
use Rattle.bloom_parts.specs.declared.math.bracket.Bracket.{Bracket}
use Rattle.bloom_parts.specs.Brackets.{low_of, high_of, width_of, Holds, density_high}
use Rattle.bloom_parts.specs.Counts.{count_on}
use Rattle.bloom_parts.specs.Draws.{false_positives, positives}
use Rattle.bloom_parts.specs.Powers.{lower_power_of, upper_power_of}

-- the rate of false positives after t draws, for queries of k: the part of all pairs of both
abbrev pub HoldsFalsePositives : Bracket → ℕ → ℕ → ℕ → Type 0
HoldsFalsePositives bracket b t k = Holds bracket (false_positives b t k) (b ^ (t + k))

-- the rate of a set: the part of all queries of k draws whose positions all lie in it
abbrev pub HoldsPositives : Bracket → ℕ → ℕ → (ℕ → Bool) → Type 0
HoldsPositives bracket b k A = Holds bracket (positives b k A) (b ^ k)

-- the share of set bits whose power to k is above the rate: the upper end of the mean share, and
-- (k - 1) / (2 * b) of what it leaves, but no more than that. Where no bit is set, none
abbrev pub share_above : ℕ → ℕ → ℕ → ℕ
share_above b k high = if nat_eq high 0 then 0 else
    high + div_ceil ((2 ^ 63 - high) * min (k - 1) (2 * b)) (2 * b)

-- the upper end of the rate of false positives
abbrev pub false_pos_high : ℕ → ℕ → ℕ → ℕ
false_pos_high b t k = upper_power_of (share_above b k (density_high b t)) k

-- b bits take n items of k hashes at a rate of num / den, which the upper end of their mean rate is
-- not above
abbrev pub TakesItems : ℕ → ℕ → ℕ → ℕ → ℕ → Type 0
TakesItems b k num den n = false_pos_high b (k * n) k * den ≤ 2 ^ 63 * num

-- they take this many items, and not one more
pub record IsCapacity (b k num den n : ℕ) : Type 0 where
  pub takes : TakesItems b k num den n
  pub last : n + 1 < 2 ^ 64 → TakesItems b k num den (n + 1) → ⊥

-- how far the ends of the rate may be apart
abbrev pub false_pos_width : ℕ → ℕ → ℕ → ℕ
false_pos_width b t k = k * (2 * t + div_ceil (2 ^ 63 * (k - 1)) (2 * b))

-- the lower end of the rate of a set of which this many positions of b are members
abbrev pub positives_low : ℕ → ℕ → ℕ → ℕ
positives_low b k ones = lower_power_of (2 ^ 63 * ones / b) k

-- the upper end of the rate of such a set
abbrev pub positives_high : ℕ → ℕ → ℕ → ℕ
positives_high b k ones = upper_power_of (div_ceil (2 ^ 63 * ones) b) k

-- the bracket of the rate of sets with this many members
pub record BoundsPositives (b k ones : ℕ) (bracket : Bracket) : Type 0 where
  pub holds : (A : ℕ → Bool) → count_on A b ≡ ones → HoldsPositives bracket b k A
  pub low : low_of bracket ≡ positives_low b k ones
  pub high : high_of bracket ≡ positives_high b k ones
  pub width : width_of bracket ≤ 2 * k

-- of n queries, whatever they are, the part for which at least one of two tests holds, by the parts
-- for which each does
abbrev pub HoldsEither : Bracket → Bracket → Bracket → Type 0
HoldsEither first second either = (n : ℕ) (A B : ℕ → Bool) → Holds first (count_on A n) n →
    Holds second (count_on B n) n → Holds either (count_on (λ q. A q || B q) n) n

-- the bracket of the part for which one of two tests holds
pub record BoundsEither (first second either : Bracket) : Type 0 where
  pub holds : HoldsEither first second either
  pub low : low_of either ≡ max (low_of first) (low_of second)
  pub high : high_of either ≡ min (2 ^ 63) (high_of first + high_of second)
