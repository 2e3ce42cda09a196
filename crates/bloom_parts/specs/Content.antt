-- Words of 64 bits as a set of positions, the content of a Bloom filter (B. H. Bloom, "Space/time
-- trade-offs in hash coding with allowable errors", 1970). A position is a number below 64 times
-- the number of words; where its bit lies is the choice of the crate fastbloom 0.17.0.
use Rattle.std.specs.Prelude.{◌≡◌, ◌↔◌, ◌<◌, ℕ, ◌*◌, ◌/◌, ◌%◌, ◌^◌, Bool, true, List, length, slice_index, ◌==◌, All}
use Rattle.std.specs.Int.{bit_at}

-- whether the bit of a position is set in its word, where bit 0 is the lowest
abbrev pub bit_is_on : ℕ → ℕ → Bool
bit_is_on word p = bit_at word (p % 64) == 1

-- whether a position is set in words: it lies in word p / 64, and past the last word none is set
unfoldable pub content : List ℕ → ℕ → Bool
content words p = bit_is_on (slice_index words (p / 64)) p

-- where a hash lies among n positions, by multiply and shift (D. Lemire, "Fast random integer
-- generation in an interval", 2019)
abbrev pub index_of : ℕ → ℕ → ℕ
index_of n hash = hash * n / 2 ^ 64

-- words of 64 bits each
abbrev pub AreWords : List ℕ → Type 0
AreWords words = All (λ word. word < 2 ^ 64) words

-- two lists of words of equal length are equal exactly if they have the same content
abbrev pub EqualWordsLaw : Type 0
EqualWordsLaw = (a b : List ℕ) → AreWords a → AreWords b → length a ≡ length b
    → (a ≡ b ↔ ((p : ℕ) → content a p ≡ content b p))

-- a content has no position at or past the number of bits
abbrev pub BoundLaw : Type 0
BoundLaw = (words : List ℕ) (p : ℕ) → content words p ≡ true → p < 64 * length words
