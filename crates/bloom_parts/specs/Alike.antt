-- How many items two filters have in common, and which part of all their items that is (P. Jaccard,
-- "The distribution of the flora in the alpine zone", 1912), by the estimates of each and of their
-- union (O. Papapetrou, W. Siberski and W. Nejdl, "Cardinality estimation and dynamic length
-- adaptation for Bloom filters", 2010). The bounds are this project's own.
use Rattle.std.specs.Prelude.{◌≡◌, ℕ, ◌+◌, ◌-◌, ◌*◌, ◌/◌, ◌^◌, ◌<◌, ◌≤◌, min, nat_eq, nat_lt, if◌then◌else◌, Option, None, Some, IfSome}
use Rattle.std.specs.Int.{div_ceil}
use Rattle.bloom_parts.specs.declared.math.bracket.Bracket.{Bracket}
use Rattle.bloom_parts.specs.declared.math.estimate.Estimate.{Estimate}
use Rattle.bloom_parts.specs.Brackets.{low_of, high_of, Holds}
use Rattle.bloom_parts.specs.Estimates.{EstimatesItems, least_of, most_of}

-- a number of items lies within the bounds of an estimate
pub record HoldsItems (estimate : Estimate) (items : ℕ) : Type 0 where
  pub at_least : least_of estimate ≤ items
  pub at_most : IfSome (most_of estimate) (λ most. items ≤ most)

-- the least number in common, of the least numbers of both and the most of the union
abbrev pub common_least : ℕ → ℕ → Option ℕ → ℕ
common_least first second None = 0
common_least first second (Some both) = min (2 ^ 64 - 1) (first + second - both)

-- a number, where it has 64 bits
abbrev pub in_range : ℕ → Option ℕ
in_range items = if nat_lt items (2 ^ 64) then Some items else None

-- the most in common, of the most of both and the least number of the union
abbrev pub common_most : Option ℕ → Option ℕ → ℕ → Option ℕ
common_most None second both = None
common_most (Some first) None both = None
common_most (Some first) (Some second) both = in_range (first + second - both)

-- what two filters have in common is what both have together, less what their union has
abbrev pub HoldsCommon : Estimate → Estimate → Estimate → Estimate → Type 0
HoldsCommon first second both common =
    (m n items : ℕ) → HoldsItems first m → HoldsItems second n → HoldsItems both items →
    HoldsItems common (m + n - items)

-- an estimate of what two filters have in common, by those of each and of their union: its bounds
-- are exactly these
pub record IsCommon (first second both common : Estimate) : Type 0 where
  pub holds : HoldsCommon first second both common
  pub low : least_of common ≡ common_least (least_of first) (least_of second) (most_of both)
  pub high : most_of common ≡ common_most (most_of first) (most_of second) (least_of both)

-- the lower bound of a part, in units of 2^-63, of the least number in the part and the most of all
abbrev pub part_low : ℕ → Option ℕ → ℕ
part_low part None = 0
part_low part (Some all) =
    if nat_eq all 0 then 0 else min (2 ^ 63) (2 ^ 63 * part / all)

-- the upper bound of a part, of the most in the part and the least number of all
abbrev pub part_high : Option ℕ → ℕ → ℕ
part_high None all = 2 ^ 63
part_high (Some part) all =
    if nat_eq all 0 then 2 ^ 63 else min (2 ^ 63) (div_ceil (2 ^ 63 * part) all)

-- which part of all items some of them are
abbrev pub HoldsPart : Estimate → Estimate → Bracket → Type 0
HoldsPart some all part =
    (m n : ℕ) → HoldsItems some m → HoldsItems all n → 0 < n → m ≤ n → Holds part m n

-- a bracket of the part that some items are of all, by the estimates of both: its ends are exactly
-- these
pub record IsPartOf (some all : Estimate) (part : Bracket) : Type 0 where
  pub holds : HoldsPart some all part
  pub low : low_of part ≡ part_low (least_of some) (most_of all)
  pub high : high_of part ≡ part_high (most_of some) (least_of all)

-- the estimates of two filters of b bits, k hashes an item, of which ones and others bits are set,
-- and both in the one or the other
pub record EstimatesEach (b k ones others both : ℕ) (first second all : Estimate) : Type 0 where
  pub of_first : EstimatesItems b k ones first
  pub of_second : EstimatesItems b k others second
  pub of_all : EstimatesItems b k both all

-- an estimate of the items that two filters have in common
pub record EstimatesCommon (b k ones others both : ℕ) (common : Estimate) : Type 0 where
  pub first : Estimate
  pub second : Estimate
  pub all : Estimate
  pub each : EstimatesEach b k ones others both first second all
  pub is : IsCommon first second all common

-- a bracket of the part of all items that two filters have in common
pub record EstimatesLikeness (b k ones others both : ℕ) (part : Bracket) : Type 0 where
  pub first : Estimate
  pub second : Estimate
  pub all : Estimate
  pub common : Estimate
  pub each : EstimatesEach b k ones others both first second all
  pub is_common : IsCommon first second all common
  pub is_part : IsPartOf common all part
