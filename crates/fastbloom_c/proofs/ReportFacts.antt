-- Estimates and rates as two numbers, also of words that threads share: cases that hold, and the
-- nearest that don't.
use Rattle.std.proofs.Common.{◌≡◌, ◌∙◌, ◌+◌, ◌-◌, ◌^◌, ◌≤◌, ℕ, Option, None, Some, IfSome, unwrap_or, [], ◌∷◌, refl, ap, arith, subst, lit≤, lit<}
use Rattle.std.proofs.lemmas.Option.{none-some}
use Rattle.bloom_parts.specs.Brackets.{low_of, high_of}
use Rattle.bloom_parts.specs.Content.{content}
use Rattle.bloom_parts.specs.Counts.{count_on}
use Rattle.bloom_parts.specs.Estimates.{EstimatesItems, least_of, most_of}
use Rattle.bloom_parts.specs.FalsePositives.{BoundsPositives}
use Rattle.bloom_parts.specs.Made.{SharedWords}
use Rattle.bloom_parts.specs.Powers.{rounded_power}
use Rattle.bloom_parts.specs.declared.math.bracket.Bracket.{Bracket}
use Rattle.bloom_parts.specs.declared.math.estimate.Estimate.{Estimate}
use Rattle.bloom_steps.specs.Loaded.{CountsLoaded}
use Rattle.fastbloom_c.specs.Estimates.{TellsBounds, TellsPart, ones_of_words, ones_of_either_words}
use Rattle.fastbloom_c.specs.Rates.{HoldRate}
use Rattle.fastbloom_c.specs.SharedRates.{BoundsWords, EstimatesWords}

-- two bounds of a number of items
abbrev from_to : (low high : ℕ) → low ≤ high → Estimate
from_to low high ordered = record {
  low = low;
  high = Some high;
  ordered = λ x is. subst (λ (most : Option ℕ). IfSome most (λ it. low ≤ it)) is ordered;
}

-- two to five items
abbrev two_to_five : Estimate
two_to_five = from_to 2 5 (lit≤ tt)

-- two items at least
abbrev two_at_least : Estimate
two_at_least = record { low = 2; high = None; ordered = λ x is. absurd (none-some x is) }

-- two parts of the whole, which is 2^63
abbrev part : (low high : ℕ) → low ≤ high → high ≤ 2 ^ 63 → Bracket
part low high ordered in_range =
    record { low = low; high = high; ordered = ordered; in_range = in_range }

-- a quarter to a half
abbrev quarter_to_half : Bracket
quarter_to_half = part (2 ^ 61) (2 ^ 62) (lit≤ tt) (lit≤ tt)

-- the number that stands for the upper bound of an estimate
abbrev top : Estimate → ℕ
top estimate = unwrap_or (most_of estimate) (2 ^ 64 - 1)

-- just the two bounds are told, or the greatest number of 64 bits where there is no upper one
tells-bounds : TellsBounds (λ estimate. estimate ≡ two_to_five) 2 5
    × TellsBounds (λ estimate. estimate ≡ two_at_least) 2 (2 ^ 64 - 1)
    × (TellsBounds (λ estimate. estimate ≡ two_to_five) 1 5 → ⊥)
    × (TellsBounds (λ estimate. estimate ≡ two_to_five) 2 6 → ⊥)
    × (TellsBounds (λ estimate. estimate ≡ two_at_least) 2 (2 ^ 64 - 2) → ⊥)
    × (TellsBounds (λ estimate. ⊥) 2 5 → ⊥)
tells-bounds = (
  record { estimate = two_to_five; holds = refl; is_low = refl; is_high = refl },
  record { estimate = two_at_least; holds = refl; is_low = refl; is_high = refl },
  λ told. omega (arith, told.is_low ∙ ap (λ (e : Estimate). least_of e) told.holds),
  λ told. omega (arith, told.is_high ∙ ap top told.holds),
  λ told. omega (arith, told.is_high ∙ ap top told.holds),
  λ told. told.holds,
)

-- just the two ends of a bracket are told
tells_part-ends : TellsPart (λ it. it ≡ quarter_to_half) (2 ^ 61) (2 ^ 62)
    × (TellsPart (λ it. it ≡ quarter_to_half) (2 ^ 61 - 1) (2 ^ 62) → ⊥)
    × (TellsPart (λ it. it ≡ quarter_to_half) (2 ^ 61) (2 ^ 62 + 1) → ⊥)
    × (TellsPart (λ it. ⊥) (2 ^ 61) (2 ^ 62) → ⊥)
tells_part-ends = (
  record { part = quarter_to_half; holds = refl; is_low = refl; is_high = refl },
  λ told. omega (arith, told.is_low ∙ ap (λ (it : Bracket). low_of it) told.holds),
  λ told. omega (arith, told.is_high ∙ ap (λ (it : Bracket). high_of it) told.holds),
  λ told. told.holds,
)

-- the bits of all words are counted
ones-words : ones_of_words (5 ∷ 2 ^ 63 ∷ []) ≡ 3
unfolding content count_on
ones-words = refl

-- a bit that both have counts once
ones-either : ones_of_either_words (3 ∷ 1 ∷ []) (6 ∷ 1 ∷ []) ≡ 4
unfolding content count_on
ones-either = refl

-- after one position of 64 was set, one hash errs once in 64 times, which are 2^57 of 2^63
rate-holds : HoldRate 144115188075855872 144115188075855872 64 1 1
    × (HoldRate 144115188075855873 9223372036854775808 64 1 1 → ⊥)
    × (HoldRate 0 144115188075855871 64 1 1 → ⊥)
rate-holds = (
  record { at_least = lit≤ tt; at_most = lit≤ tt },
  λ bounds. omega (arith, bounds.at_least),
  λ bounds. omega (arith, bounds.at_most),
)

-- one word
abbrev word : SharedWords
word = record { name = 5; count = 1 }

-- one in 64
abbrev once_in_64 : Bracket
once_in_64 = part 144115188075855872 144115188075855872 (lit≤ tt) (lit≤ tt)

-- the rate is that of as many bits as were found set; no count has a bracket of three units
bounds-words : (BoundsPositives 64 1 1 once_in_64 → CountsLoaded word 1
    → BoundsWords word 1 once_in_64)
    × (BoundsWords word 1 (part 144115188075855870 144115188075855873 (lit≤ tt) (lit≤ tt)) → ⊥)
unfolding rounded_power
bounds-words = (
  λ bounds counts. record { ones = 1; counts = counts; bounds = bounds },
  λ is. omega (arith, is.bounds.width),
)

-- the estimate is that of as many bits as were found set; 1 to 3 items is that of no count, as 1
-- and 2 have bounds that are nearer
estimates-words : (EstimatesItems 64 1 1 (from_to 1 1 (lit≤ tt)) → CountsLoaded word 1
    → EstimatesWords word 1 (from_to 1 1 (lit≤ tt)))
    × (EstimatesWords word 1 (from_to 1 3 (lit≤ tt)) → ⊥)
unfolding rounded_power
estimates-words = (
  λ estimates counts. record { ones = 1; counts = counts; estimates = estimates },
  λ is.
      omega (
        arith,
        is.estimates.tight.low_last (lit< tt),
        is.estimates.tight.high_first (lit< tt),
      ),
)
