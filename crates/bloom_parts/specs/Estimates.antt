-- How many items a filter has, by how many of its bits are set: the number at which as many bits
-- are expected to be set (S. J. Swamidass and P. Baldi, "Mathematical correction for fingerprint
-- similarity measures to improve chemical retrieval", 2007). That number need not be whole. Here it
-- lies between two bounds, which the brackets of the expected density give. The bounds are this
-- project's own; they say nothing of how probable a deviation is.
use Rattle.std.specs.Prelude.{◌≡◌, ℕ, ◌+◌, ◌-◌, ◌*◌, ◌^◌, ◌<◌, ◌≤◌, Option, None, Some, IfSome}
use Rattle.bloom_parts.specs.Brackets.{density_low, density_high}
use Rattle.bloom_parts.specs.declared.math.estimate.Estimate.{Estimate}

-- the lower bound of an estimate
abbrev pub least_of : Estimate → ℕ
least_of estimate = estimate.low

-- the upper bound of an estimate, where there is one
abbrev pub most_of : Estimate → Option ℕ
most_of estimate = estimate.high

-- the share of b bits that is expected to be set after t of them were set, each time any of them
-- alike, is at most ones / b: 1 - ((b - 1) / b)^t ≤ ones / b
abbrev pub IsAtMost : ℕ → ℕ → ℕ → Type 0
IsAtMost b t ones = b * (b ^ t - (b - 1) ^ t) ≤ ones * b ^ t

-- it is at least ones / b
abbrev pub IsAtLeast : ℕ → ℕ → ℕ → Type 0
IsAtLeast b t ones = ones * b ^ t ≤ b * (b ^ t - (b - 1) ^ t)

-- it is less than ones / b
abbrev pub IsBelow : ℕ → ℕ → ℕ → Type 0
IsBelow b t ones = b * (b ^ t - (b - 1) ^ t) < ones * b ^ t

-- it is more than ones / b
abbrev pub IsAbove : ℕ → ℕ → ℕ → Type 0
IsAbove b t ones = ones * b ^ t < b * (b ^ t - (b - 1) ^ t)

-- the number of items at which ones of b bits are expected to be set, k hashes an item, lies
-- between the bounds: no number below the one fits, and none above the other
pub record IsEstimate (b k ones low : ℕ) (high : Option ℕ) : Type 0 where
  pub at_most : IsAtMost b (k * low) ones
  pub at_least : IfSome high (λ most. IsAtLeast b (k * most) ones)
  pub below : (items : ℕ) → items < low → IsBelow b (k * items) ones
  pub above : IfSome high (λ most. (items : ℕ) → most < items → IsAbove b (k * items) ones)

-- the brackets of the expected density tell no more: that of one item more than the lower bound
-- reaches above ones / b, that of one item less than the upper bound reaches below it, and where
-- there is no upper bound, so does that of the greatest number of 64 bits
pub record IsTight (b k ones low : ℕ) (high : Option ℕ) : Type 0 where
  pub low_last : low + 1 < 2 ^ 64 → 2 ^ 63 * ones < density_high b (k * (low + 1)) * b
  pub high_first : IfSome high (λ most. 0 < most →
      density_low b (k * (most - 1)) * b < 2 ^ 63 * ones)
  pub none : high ≡ None → density_low b (k * (2 ^ 64 - 1)) * b < 2 ^ 63 * ones

-- how far the bounds are apart at most, by the share of bits that stays clear: some 4 * b * high /
-- clear items more than two, where clear is that share in parts of 2^63
abbrev pub IsNear : ℕ → ℕ → ℕ → Option ℕ → Type 0
IsNear b k low high = IfSome high (λ most.
    (most - low - 2) * (2 ^ 63 - density_high b (k * (most - 1))) ≤ 4 * (b - 1) * (most - 1))

-- an estimate of the items in a filter of b bits, k hashes an item, of which ones bits are set: 0
-- to 0 where no bit is set, and with no upper bound where all are, since then no number is too many
pub record EstimatesItems (b k ones : ℕ) (estimate : Estimate) : Type 0 where
  pub fits : IsEstimate b k ones (least_of estimate) (most_of estimate)
  pub tight : IsTight b k ones (least_of estimate) (most_of estimate)
  pub near : IsNear b k (least_of estimate) (most_of estimate)
  pub none : ones ≡ 0 → (least_of estimate ≡ 0) × (most_of estimate ≡ Some 0)
  pub all : ones ≡ b → most_of estimate ≡ None

-- the expected density only grows, and so no two numbers of items have the same one
abbrev pub DensityLaw : Type 0
DensityLaw = (b t u : ℕ) → 1 < b → t < u →
    (b ^ t - (b - 1) ^ t) * b ^ u < (b ^ u - (b - 1) ^ u) * b ^ t
