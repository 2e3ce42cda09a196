-- Words and their content determine each other.
use Rattle.std.proofs.Common.{◌≡◌, ℕ, zero, suc, ◌+◌, ◌*◌, ◌/◌, ◌%◌, ◌^◌, ◌<◌, ◌≤◌, false, eqb, List, length, get_or, refl, sym, ◌∙◌, ap, arith, inl, inr}
use Rattle.bloom_parts.proofs.Common.{bit_at, cases_lt, both_ways, bit_is_on, content, AreWords, EqualWordsLaw, BoundLaw}
use Rattle.std.proofs.lemmas.Nat.Bits.{bit_at-lt, same_from_bits_below}
use Rattle.std.proofs.lemmas.List.{ext_get_or, get_or_past}
use Rattle.std.proofs.lemmas.List.Elements.{All-get_or}
use Rattle.bloom_parts.proofs.ContentLemmas.{bit_is_on-zero}

-- digits of 0 or 1 that are 1 alike are equal
same_digits : (a b : ℕ) → a < 2 → b < 2 → eqb a 1 ≡ eqb b 1 → a ≡ b
same_digits zero zero p q same = refl
same_digits zero (suc zero) p q same = absurd (both_ways false refl same)
same_digits (suc zero) zero p q same = absurd (both_ways false refl (sym same))
same_digits (suc zero) (suc zero) p q same = refl
same_digits _ _ p q same = absurd (omega arith)

-- the content at bit i of word k
pub content-at : (words : List ℕ) (k i : ℕ) → i < 64
    → content words (64 * k + i) ≡ eqb (bit_at (get_or words k 0) i) 1
unfolding content
content-at words k i below =
    let word : (64 * k + i) / 64 ≡ k = omega arith in
    let bit : (64 * k + i) % 64 ≡ i = omega arith in
    ap (λ j. bit_is_on (get_or words j 0) (64 * k + i)) word
    ∙ ap (λ j. eqb (bit_at (get_or words k 0) j) 1) bit

-- words of the same content are equal, one by one
same_words : (a b : List ℕ) → AreWords a → AreWords b → length a ≡ length b
    → ((p : ℕ) → content a p ≡ content b p) → a ≡ b
same_words a b fit fit' long same =
    ext_get_or 0 a b long (λ k within.
    same_from_bits_below 64 (get_or a k 0) (get_or b k 0)
    (All-get_or (λ word. word < 2 ^ 64) a k 0 within fit)
    (All-get_or (λ word. word < 2 ^ 64) b k 0 (omega arith) fit')
    (λ i below. same_digits _ _ (bit_at-lt _ i) (bit_at-lt _ i)
    (sym (content-at a k i below) ∙ same (64 * k + i) ∙ content-at b k i below)))

-- the law of equal words
pub equal_words_law : EqualWordsLaw
equal_words_law a b fit fit' long = (
  (λ same p. ap (λ words. content words p) same),
  same_words a b fit fit' long,
)

-- past the words no position is set
pub content-past : (words : List ℕ) (p : ℕ) → length words ≤ p / 64 → content words p ≡ false
unfolding content
content-past words p past =
    ap (λ word. bit_is_on word p) (get_or_past words (p / 64) 0 past) ∙ bit_is_on-zero p

-- the law that no position lies past the words
pub bound_law : BoundLaw
bound_law words p on = elim (cases_lt (p / 64) (length words)) [
  | inl within ↦ omega arith
  | inr past ↦ absurd (both_ways _ (content-past words p past) on)
]
