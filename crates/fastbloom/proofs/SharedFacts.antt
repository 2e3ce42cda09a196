-- What contracts say of filters that threads share: cases that hold, and the nearest that don't.
-- How many sixty-fourths of a halving one half has is a premise here; `bloom_parts` shows it.
use Rattle.std.proofs.Common.{◌≡◌, ◌↔◌, ◌∙◌, ℕ, ◌+◌, List, [], ◌∷◌, length, replicate, refl, ap, subst, arith, lit<}
use Rattle.fastbloom.proofs.Common.{BeganWith, RateStart, words_for, empty_start, sized_filter, IsSizeOf}
use Rattle.bloom_parts.specs.Sizing.{IsHalvings, size_for}
use Rattle.bloom_steps.specs.LiveSteps.{TakesWordsOf, WereInserted}
use Rattle.fastbloom.specs.Shared.{HasFormFor, MakesInserts, TakesWords}
use Rattle.bloom_plain.specs.SharedFilters.{HasFormOf, HaveSameShape}
use Rattle.fastbloom.proofs.Cases.{plain, shared}

-- names make no difference to the shape, and numbers of words and of hashes do
same_shape : HaveSameShape (shared 1 2 3) (shared 4 2 3)
    × (HaveSameShape (shared 1 2 3) (shared 1 3 3) → ⊥)
    × (HaveSameShape (shared 1 2 3) (shared 1 2 4) → ⊥)
same_shape = (
  record { words = refl; hashes = refl },
  λ same. omega (arith, same.words),
  λ same. omega (arith, same.hashes),
)

-- the form is that of the words at the beginning, their number, the hashes and the hasher
form_of : (BeganWith (shared 1 2 3).words (5 ∷ 6 ∷ [])
    → HasFormOf (shared 1 2 3) (plain (5 ∷ 6 ∷ []) 7))
    × (HasFormOf (shared 1 2 3) (plain (5 ∷ 6 ∷ []) 7)
    → BeganWith (shared 1 2 3).words (5 ∷ 6 ∷ []))
    × (HasFormOf (shared 1 2 4) (plain (5 ∷ 6 ∷ []) 7) → ⊥)
    × (HasFormOf (shared 1 2 3) (plain (5 ∷ 6 ∷ []) 8) → ⊥)
    × (HasFormOf (shared 1 1 3) (plain (5 ∷ 6 ∷ []) 7) → ⊥)
form_of = (
  λ began. record { began = began; words = refl; hashes = refl; hasher = refl },
  λ form. form.began,
  λ form. omega (arith, form.hashes),
  λ form. omega (arith, form.hasher),
  λ form. omega (arith, form.words),
)

-- a builder of the rate one half, whose hasher is the number 7
abbrev half : RateStart ℕ
half = record {
  rate = record { num = 1; den = 2; num_above = lit< tt; den_above = lit< tt };
  hasher = 7;
}

module _ (one : IsHalvings 1 2 64) where
  -- the size for 1000 items at one half is 1448 bits and nothing else
  bits-half : (bits : ℕ) → IsSizeOf half 1000 bits → bits ≡ 1448
  bits-half bits sized =
      let few = sized.1.least 64 one.enough in
      let many = one.least sized.0 sized.1.enough in
      let same : sized.0 ≡ 64 = omega (arith, few, many) in
      sized.2 ∙ ap (size_for 1000) same

  -- so 1000 items at one half have 23 words, which began as zeros, and one hash: not 24 words, nor
  -- two hashes. And no item counts as one, which 44 hashes suit
  form_for : (BeganWith (shared 1 23 1).words (replicate 23 0)
      → HasFormFor half 1000 (shared 1 23 1))
      × (HasFormFor half 1000 (shared 1 24 1) → ⊥)
      × (HasFormFor half 1000 (shared 1 23 2) → ⊥)
      × (HasFormFor half 1000 (shared 1 23 1) → BeganWith (shared 1 23 1).words (replicate 23 0))
      × (BeganWith (shared 1 1 44).words (0 ∷ []) → HasFormFor half 0 (shared 1 1 44))
  form_for = (
    λ began. (
      1448,
      (64, one, refl),
      record { began = began; words = refl; hashes = refl; hasher = refl },
    ),
    λ form. (let wrong : 24 ≡ 23 = form.2.words
        ∙ ap (λ b. length (replicate (words_for b) 0)) (bits-half form.0 form.1) in
        omega (arith, wrong)),
    λ form. (let wrong : 2 ≡ 1 = form.2.hashes
        ∙ ap (λ b. (sized_filter (empty_start half b) 1000).hashes) (bits-half form.0 form.1) in
        omega (arith, wrong)),
    λ form. subst (λ b. BeganWith (shared 1 23 1).words (replicate (words_for b) 0))
        (bits-half form.0 form.1) form.2.began,
    λ began. (
      64,
      (64, one, refl),
      record { began = began; words = refl; hashes = refl; hasher = refl },
    ),
  )

-- the hash of a number under a hasher that is a number
abbrev sum : ℕ → ℕ → ℕ
sum hasher item = hasher + item

-- the inserts of a list of items are those of their hashes under the filter's hasher, here 7
inserts : (name : ℕ) → MakesInserts sum (shared name 1 1) (3 ∷ 4 ∷ [])
    ↔ WereInserted (shared name 1 1).words 1 (10 ∷ 11 ∷ [])
inserts name = (λ is. is, λ is. is)

-- what is taken of a filter is taken of its words, by a call with its number of hashes
takes : (words : List ℕ) → TakesWords (shared 1 2 3) words
    ↔ TakesWordsOf (shared 1 2 3).words 3 words
takes words = (λ is. is, λ is. is)
