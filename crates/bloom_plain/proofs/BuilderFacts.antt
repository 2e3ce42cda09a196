-- What builders make and refuse, at values from outside: for each definition that public clauses
-- cite a case that holds and cases as near as can be that don't. The halvings of a rate are how
-- often one whole is halved to reach it, in sixty-fourths. Their number is a premise here;
-- `bloom_parts` shows it of these rates.
use Rattle.std.proofs.Common.{◌≡◌, ℕ, ◌<◌, true, false, List, [], ◌∷◌, Some, None, length, get_or, replicate, refl, ap, ◌∙◌, arith, lit<}
use Rattle.bloom_parts.specs.declared.error.FilterError.TheVariants.{ZeroBits, EmptyWords, TooManyWords, SizeOverflow, Memory}
use Rattle.bloom_parts.specs.Sizing.{IsHalvings, size_for}
use Rattle.bloom_plain.specs.Builders.{Start, RateStart, same_start, same_rate_start, words_for, sized_filter, empty_start, IsSizeOf, IsMadeFor, words_refusal, bits_refusal, size_refusal, RefusesAs}
use Rattle.bloom_plain.proofs.FilterFacts.{filter}

words_for-cases : (words_for 0 ≡ 0) × (words_for 1 ≡ 1) × (words_for 64 ≡ 1) × (words_for 65 ≡ 2)
words_for-cases = (refl, refl, refl, refl)

-- no words are refused, and 2^58 are too many
words_refusal-cases : (words_refusal 0 ≡ Some EmptyWords) × (words_refusal 1 ≡ None)
    × (words_refusal 288230376151711743 ≡ None)
    × (words_refusal 288230376151711744 ≡ Some TooManyWords)
words_refusal-cases = (refl, refl, refl, refl)

-- no bits are refused, and 2^64 - 63 need a word too many
bits_refusal-cases : (bits_refusal 0 ≡ Some ZeroBits) × (bits_refusal 1 ≡ None)
    × (bits_refusal 18446744073709551552 ≡ None)
    × (bits_refusal 18446744073709551553 ≡ Some TooManyWords)
bits_refusal-cases = (refl, refl, refl, refl)

-- a size of 2^64 - 63 bits needs a word too many, and one of 2^64 is no number of 64 bits
size_refusal-cases : (size_refusal 64 ≡ None) × (size_refusal 18446744073709551552 ≡ None)
    × (size_refusal 18446744073709551553 ≡ Some TooManyWords)
    × (size_refusal 18446744073709551615 ≡ Some TooManyWords)
    × (size_refusal 18446744073709551616 ≡ Some SizeOverflow)
size_refusal-cases = (refl, refl, refl, refl, refl)

-- a call fails with the refusal that is listed for it, and else succeeds or is out of memory
refuses_as-cases : RefusesAs (Some ZeroBits) (Some ZeroBits) × RefusesAs None None
    × RefusesAs None (Some Memory)
    × (RefusesAs (Some ZeroBits) (Some Memory) → ⊥)
    × (RefusesAs (Some ZeroBits) None → ⊥)
    × (RefusesAs None (Some ZeroBits) → ⊥)
refuses_as-cases = (refl, tt, refl, λ refused. cc, λ refused. cc, λ refused. cc)

-- a builder of these words, and of a hasher that is told apart by a number
abbrev pub start : List ℕ → ℕ → Start ℕ
start words hasher = record { words = words; hasher = hasher }

-- words count, and hashers don't
same_start-cases : (same_start (start (5 ∷ 6 ∷ []) 7) (start (5 ∷ 6 ∷ []) 8) ≡ true)
    × (same_start (start (5 ∷ 6 ∷ []) 7) (start (5 ∷ 7 ∷ []) 7) ≡ false)
    × (same_start (start (5 ∷ []) 7) (start (5 ∷ 0 ∷ []) 7) ≡ false)
same_start-cases = (refl, refl, refl)

-- 64 bits for one item have 44 hashes, since 64 times the logarithm of 2 is 44.4, and so they have
-- for 0 items; 128 bits for two items have as many
sized_filter-cases : (sized_filter (start (5 ∷ []) 7) 1 ≡ filter (5 ∷ []) 44 7)
    × (sized_filter (start (5 ∷ []) 7) 0 ≡ filter (5 ∷ []) 44 7)
    × (sized_filter (start (5 ∷ 6 ∷ []) 7) 2 ≡ filter (5 ∷ 6 ∷ []) 44 7)
sized_filter-cases = (refl, refl, refl)

-- a builder of the rate num / den, and of a hasher that is told apart by a number
abbrev at_rate : (num den : ℕ) → 0 < num → 0 < den → ℕ → RateStart ℕ
at_rate num den some some' hasher = record {
  rate = record { num = num; den = den; num_above = some; den_above = some' };
  hasher = hasher;
}

-- a builder at the rate one half
abbrev pub half : RateStart ℕ
half = at_rate 1 2 (lit< tt) (lit< tt) 7

-- a builder at the rate two quarters, under another hasher
abbrev pub quarters : RateStart ℕ
quarters = at_rate 2 4 (lit< tt) (lit< tt) 8

-- rates count as fractions, and hashers don't
same_rate_start-cases : (same_rate_start half quarters ≡ true)
    × (same_rate_start half (at_rate 1 4 (lit< tt) (lit< tt) 7) ≡ false)
    × (same_rate_start half (at_rate 2 1 (lit< tt) (lit< tt) 7) ≡ false)
same_rate_start-cases = (refl, refl, refl)

module _ (one : IsHalvings 1 2 64) where
  -- 1000 items at one half take no other number of bits than 1448
  only_size : (bits : ℕ) → IsSizeOf half 1000 bits → bits ≡ 1448
  only_size bits sized =
      let few = sized.1.least 64 one.enough in
      let many = one.least sized.0 sized.1.enough in
      let same : sized.0 ≡ 64 = omega (arith, few, many) in
      sized.2 ∙ ap (size_for 1000) same

  -- no byte less and no byte more, and 0 items take as many bits as one
  is_size_of-cases : IsSizeOf half 1000 1448 × IsSizeOf half 0 64
      × (IsSizeOf half 1000 1440 → ⊥)
      × (IsSizeOf half 1000 1456 → ⊥)
  is_size_of-cases = (
    (64, one, refl),
    (64, one, refl),
    λ sized. omega (arith, only_size 1440 sized),
    λ sized. omega (arith, only_size 1456 sized),
  )

  -- the filter for 1000 items at one half has 23 words and one hash, no position set, and the
  -- builder's hasher; that for 0 items is that for one
  is_made_for-cases : IsMadeFor half 1000 (filter (replicate 23 0) 1 7)
      × IsMadeFor half 0 (filter (0 ∷ []) 44 7)
      × (IsMadeFor half 1000 (filter (replicate 24 0) 1 7) → ⊥)
      × (IsMadeFor half 1000 (filter (replicate 23 0) 2 7) → ⊥)
      × (IsMadeFor half 1000 (filter (1 ∷ replicate 22 0) 1 7) → ⊥)
      × (IsMadeFor half 1000 (filter (replicate 23 0) 1 8) → ⊥)
  is_made_for-cases = (
    (1448, (64, one, refl), refl),
    (64, (64, one, refl), refl),
    λ made.
        let words = ap (λ f. length f.words) made.2 in
        let wrong : 24 ≡ 23 =
        words ∙ ap (λ b. length (replicate (words_for b) 0)) (only_size made.0 made.1) in
        omega (arith, wrong),
    λ made.
        let hashes = ap (λ f. f.hashes) made.2 in
        let wrong : 2 ≡ 1 =
        hashes
        ∙ ap (λ b. (sized_filter (empty_start half b) 1000).hashes) (only_size made.0 made.1) in
        omega (arith, wrong),
    λ made.
        let first = ap (λ f. get_or f.words 0 0) made.2 in
        let wrong : 1 ≡ 0 =
        first ∙ ap (λ b. get_or (replicate (words_for b) 0) 0 0) (only_size made.0 made.1) in
        omega (arith, wrong),
    λ made. let wrong : 8 ≡ 7 = ap (λ f. f.hasher) made.2 in omega (arith, wrong),
  )
