-- Words that were loaded of a vector, and how many bits were set in them: cases that hold, and the
-- nearest that don't. The word 5 has two bits.
use Rattle.std.proofs.Common.{◌≡◌, ◌∙◌, ℕ, List, [], ◌∷◌, Some, refl, sym, ap, slice_get, subst, arith}
use Rattle.bloom_steps.proofs.Common.{same_Some, content, count_on, FoundByLoad, SharedWords, CountsLoaded, WereLoaded}

-- a vector of so many words
abbrev vector : ℕ → ℕ → SharedWords
vector name count = record { name = name; count = count }

-- the one word of a vector was loaded
pub were-loaded : (name : ℕ) → FoundByLoad (vector name 1) 0 5 → WereLoaded (vector name 1) (5 ∷ [])
were-loaded name made = record {
  count = refl;
  each = λ i within. subst
      (λ j. (found : ℕ) × FoundByLoad (vector name 1) j found
      × (slice_get (5 ∷ []) j ≡ Some found)) (omega (arith, within)) (5, made, refl);
}

-- and it is what the load found
pub was-loaded : (name word : ℕ) → WereLoaded (vector name 1) (word ∷ [])
    → FoundByLoad (vector name 1) 0 word
was-loaded name word loaded =
    let first = loaded.each 0 (omega arith) in
    subst (FoundByLoad (vector name 1) 0) (sym (same_Some word first.0 first.2)) first.1

-- as many words are loaded as a vector has, and each is one that a load found
loaded : (FoundByLoad (vector 1 1) 0 5 → WereLoaded (vector 1 1) (5 ∷ []))
    × (WereLoaded (vector 1 1) (5 ∷ []) → FoundByLoad (vector 1 1) 0 5)
    × (WereLoaded (vector 1 2) (5 ∷ []) → ⊥)
    × (WereLoaded (vector 1 1) (5 ∷ 6 ∷ []) → ⊥)
loaded = (
  were-loaded 1,
  was-loaded 1 5,
  λ words. omega (arith, words.count),
  λ words. omega (arith, words.count),
)

-- the bits of 5 by themselves
five : count_on (content (5 ∷ [])) 64 ≡ 2
unfolding content count_on
five = refl

-- where a load of the one word found 5, two bits were set, and not three
counts : (FoundByLoad (vector 1 1) 0 5 → CountsLoaded (vector 1 1) 2)
    × ((is : CountsLoaded (vector 1 1) 3) → is.words ≡ 5 ∷ [] → ⊥)
counts = (
  λ made. record { words = 5 ∷ []; loaded = were-loaded 1 made; counted = sym five },
  λ is words. (let counted : 3 ≡ 2 =
      is.counted ∙ ap (λ (l : List ℕ). count_on (content l) 64) words ∙ five in
      omega (arith, counted)),
)
