-- Filters by the words that were loaded of them: cases that hold, and the nearest that don't.
use Rattle.std.proofs.Common.{◌≡◌, ◌≢◌, ◌∙◌, ℕ, List, [], ◌∷◌, Option, Some, IfSome, ◌≤◌, refl, ap, subst, arith, lit≤}
use Rattle.bloom_parts.specs.FalsePositives.{positives_high}
use Rattle.bloom_parts.specs.Made.{BeganWith, FoundByLoad}
use Rattle.bloom_parts.specs.Powers.{rounded_power}
use Rattle.bloom_parts.specs.declared.math.bracket.Bracket.{Bracket}
use Rattle.bloom_parts.specs.declared.math.estimate.Estimate.{Estimate}
use Rattle.bloom_steps.specs.Loaded.{CountsLoaded, WereLoaded}
use Rattle.fastbloom.specs.LoadedOnes.{BoundsLoaded, EstimatesLoaded}
use Rattle.fastbloom.specs.Shared.{BeganAsLoaded, WereFoundAlike, WereFoundToDiffer}
use Rattle.bloom_steps.proofs.LoadedFacts.{was-loaded, were-loaded}
use Rattle.fastbloom.proofs.Cases.{shared}

-- a vector began with words that were loaded of another, one load for each index
began_as_loaded : (FoundByLoad (shared 1 1 1).words 0 5 → BeganWith (shared 2 1 1).words (5 ∷ [])
    → BeganAsLoaded (shared 2 1 1).words (shared 1 1 1).words)
    × (BeganAsLoaded (shared 2 1 1).words (shared 1 1 1).words
    → (word : ℕ) × FoundByLoad (shared 1 1 1).words 0 word
    × BeganWith (shared 2 1 1).words (word ∷ []))
began_as_loaded = (
  λ found began. (5 ∷ [], were-loaded 1 found, began),
  λ began. one began.0 began.1 began.2,
)
  where
    one : (words : List ℕ) → WereLoaded (shared 1 1 1).words words
        → BeganWith (shared 2 1 1).words words
        → (word : ℕ) × FoundByLoad (shared 1 1 1).words 0 word
        × BeganWith (shared 2 1 1).words (word ∷ [])
    one [] loaded began = absurd (omega (arith, loaded.count))
    one (word ∷ []) loaded began = (word, was-loaded 1 word loaded, began)
    one (word ∷ (next ∷ rest)) loaded began = absurd (omega (arith, loaded.count))

-- two filters are found alike where a load of either found the same word at each index, and have
-- equal shapes
alike : (FoundByLoad (shared 1 1 3).words 0 5 → FoundByLoad (shared 2 1 3).words 0 5
    → WereFoundAlike (shared 1 1 3) (shared 2 1 3))
    × (WereFoundAlike (shared 1 2 3) (shared 2 2 3)
    → (found : ℕ) × FoundByLoad (shared 1 2 3).words 1 found
    × FoundByLoad (shared 2 2 3).words 1 found)
    × (WereFoundAlike (shared 1 1 3) (shared 2 1 4) → ⊥)
alike = (
  λ here there. record {
    shape = record { words = refl; hashes = refl };
    words = λ i within. subst
        (λ j. (found : ℕ) × FoundByLoad (shared 1 1 3).words j found
        × FoundByLoad (shared 2 1 3).words j found)
        (omega (arith, within)) (5, here, there);
  },
  λ alike. alike.words 1 (omega arith),
  λ alike. omega (arith, alike.shape.hashes),
)

-- they are found to differ where loads at one index found words that differ
differ : (FoundByLoad (shared 1 1 3).words 0 5 → FoundByLoad (shared 2 1 3).words 0 6
    → WereFoundToDiffer (shared 1 1 3) (shared 2 1 3))
    × (WereFoundToDiffer (shared 1 1 3) (shared 2 1 3)
    → (i : ℕ) × (found : ℕ) × (other : ℕ) × FoundByLoad (shared 1 1 3).words i found
    × FoundByLoad (shared 2 1 3).words i other × (found ≢ other))
differ = (
  λ here there. record {
    index = 0;
    found = 5;
    other = 6;
    here = here;
    there = there;
    differ = λ same. omega (arith, same);
  },
  λ is. (is.index, is.found, is.other, is.here, is.there, is.differ),
)

-- exactly one item
abbrev one : Estimate
one = record {
  low = 1;
  high = Some 1;
  ordered = λ x is. subst (λ (most : Option ℕ). IfSome most (λ it. 1 ≤ it)) is (lit≤ tt);
}

-- an estimate is by the bits that were set as the words were loaded: where none was, one of one
-- item is wrong
estimates : (is : EstimatesLoaded (shared 1 1 1) one)
    → CountsLoaded (shared 1 1 1).words is.ones × (is.ones ≡ 0 → ⊥)
estimates is = (is.counts, λ empty. omega (arith, (is.estimates.none empty).0))

-- one whole, which is the rate of no filter with a clear bit
abbrev whole : Bracket
whole = record { low = 0; high = 9223372036854775808; ordered = lit≤ tt; in_range = lit≤ tt }

-- and so is a bracket: where two of 64 bits were, its upper end for one hash is 1 / 32, and not one
-- whole
bounds : (is : BoundsLoaded (shared 1 1 1) whole)
    → CountsLoaded (shared 1 1 1).words is.ones × (is.ones ≡ 2 → ⊥)
unfolding rounded_power
bounds is = (
  is.counts,
  λ two. (let high : 9223372036854775808 ≡ 288230376151711744 =
      is.bounds.high ∙ ap (λ ones. positives_high 64 1 ones) two in
      omega (arith, high)),
)
