-- Filters at values from outside, and the builders of cases that the other facts use: for each
-- definition that public clauses cite a case that holds and cases as near as can be that don't.
-- Hash 1 has the positions 0, 20 and 32 among 64 bits, so that its first two make the word 1048577.
use Rattle.std.proofs.Common.{◌≡◌, ℕ, true, false, List, [], ◌∷◌, refl, arith, lit<, lit≤}
use Rattle.bloom_plain.proofs.Common.{chain, content, are_in, anywhere}
use Rattle.bloom_parts.specs.Counts.{count_on}
use Rattle.bloom_plain.specs.Filter.{Filter, num_bits_of, IsShape, HasShape, SameShape, contains, same_filter}
use Rattle.bloom_plain.specs.Ones.{ones_of, ones_of_either}

-- a filter of these words and hashes, and of a hasher that is told apart by a number
abbrev pub filter : List ℕ → ℕ → ℕ → Filter ℕ
filter words hashes hasher = record { words = words; hashes = hashes; hasher = hasher }

-- a filter of one word and two hashes, under hasher 7
abbrev pub one_word : ℕ → Filter ℕ
one_word word = filter (word ∷ []) 2 7

num_bits_of-case : num_bits_of (filter (5 ∷ 6 ∷ []) 3 7) ≡ 128
num_bits_of-case = refl

-- from one word and one hash to 2^58 - 1 words and 2^32 - 1 hashes
is_shape-cases : IsShape 1 1 × IsShape 288230376151711743 4294967295
    × (IsShape 0 1 → ⊥) × (IsShape 288230376151711744 1 → ⊥)
    × (IsShape 1 0 → ⊥) × (IsShape 1 4294967296 → ⊥)
is_shape-cases = (
  record {
    some_words = lit≤ tt;
    few_words = lit< tt;
    some_hashes = lit≤ tt;
    few_hashes = lit< tt;
  },
  record {
    some_words = lit≤ tt;
    few_words = lit< tt;
    some_hashes = lit≤ tt;
    few_hashes = lit< tt;
  },
  λ shape. omega (arith, shape.some_words),
  λ shape. omega (arith, shape.few_words),
  λ shape. omega (arith, shape.some_hashes),
  λ shape. omega (arith, shape.few_hashes),
)

-- a filter's shape is that of its words and its hashes
pub shape : (word : ℕ) → HasShape (one_word word)
shape word = record {
  some_words = lit≤ tt;
  few_words = lit< tt;
  some_hashes = lit≤ tt;
  few_hashes = lit< tt;
}

-- words and hashers may differ, and numbers of words and hashes may not
same_shape-cases : SameShape (filter (5 ∷ []) 2 7) (filter (6 ∷ []) 2 8)
    × (SameShape (filter (5 ∷ []) 2 7) (filter (5 ∷ 0 ∷ []) 2 7) → ⊥)
    × (SameShape (filter (5 ∷ []) 2 7) (filter (5 ∷ []) 3 7) → ⊥)
same_shape-cases = (
  record { words = refl; hashes = refl },
  λ same. omega (arith, same.words),
  λ same. omega (arith, same.hashes),
)

-- hash 1 is contained where all its positions are set, be they two in one word or three in two
contains-cases : (contains anywhere (one_word 1048577) 1 ≡ true)
    × (contains anywhere (one_word 1) 1 ≡ false)
    × (contains anywhere (one_word 1048576) 1 ≡ false)
    × (contains anywhere (filter (1048577 ∷ []) 3 7) 1 ≡ false)
    × (contains anywhere (filter (1099511627777 ∷ 1 ∷ []) 3 7) 1 ≡ true)
    × (contains anywhere (filter (1099511627777 ∷ 0 ∷ []) 3 7) 1 ≡ false)
unfolding content chain are_in
contains-cases = (refl, refl, refl, refl, refl, refl)

-- words and numbers of hashes count, and hashers don't
same_filter-cases : (same_filter (filter (5 ∷ 6 ∷ []) 2 7) (filter (5 ∷ 6 ∷ []) 2 8) ≡ true)
    × (same_filter (filter (5 ∷ 6 ∷ []) 2 7) (filter (5 ∷ 7 ∷ []) 2 7) ≡ false)
    × (same_filter (filter (5 ∷ []) 2 7) (filter (5 ∷ 0 ∷ []) 2 7) ≡ false)
    × (same_filter (filter (5 ∷ 6 ∷ []) 2 7) (filter (5 ∷ 6 ∷ []) 3 7) ≡ false)
same_filter-cases = (refl, refl, refl, refl)

-- each word counts, and of a bit that is set in both filters one
ones-cases : (ones_of (filter (5 ∷ 1 ∷ []) 3 1) ≡ 3)
    × (ones_of_either (filter (5 ∷ []) 3 1) (filter (6 ∷ []) 3 2) ≡ 3)
unfolding content count_on
ones-cases = (refl, refl)
