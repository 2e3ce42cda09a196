-- The content of words as one of them changes.
use Rattle.std.proofs.Common.{◌≡◌, ◌≢◌, ℕ, ◌/◌, ◌<◌, ◌||◌, ◌&&◌, eqb, bit_or, List, length, get_or, set, sym, ap, ◌∙◌, inl, inr}
use Rattle.fastbloom.proofs.Common.{or-false, cases_eq, eq-eqb, ne_eqb, bit_is_on, content, with_bits}
use Rattle.std.proofs.lemmas.List.{get_or-set_same, get_or-set_other}
use Rattle.bloom_parts.proofs.PublishedLemmas.{bit_is_on-or}

-- a position of word i
pub content-word : (words : List ℕ) (i p : ℕ) → p / 64 ≡ i
    → content words p ≡ bit_is_on (get_or words i 0) p
unfolding content
content-word words i p here = ap (λ j. bit_is_on (get_or words j 0) p) here

-- a position of the word that was set
pub content-here : (words : List ℕ) (i word p : ℕ) → i < length words → p / 64 ≡ i
    → content (set words i word) p ≡ bit_is_on word p
content-here words i word p within here =
    content-word (set words i word) i p here
    ∙ ap (λ x. bit_is_on x p) (get_or-set_same words i word 0 within)

-- a position of another word than the one that was set
pub content-else : (words : List ℕ) (i word p : ℕ) → p / 64 ≢ i
    → content (set words i word) p ≡ content words p
unfolding content
content-else words i word p apart =
    ap (λ x. bit_is_on x p) (get_or-set_other words i (p / 64) word 0 apart)

-- a word that is set to itself
pub content-same : (words : List ℕ) (i p : ℕ) → i < length words
    → content (set words i (get_or words i 0)) p ≡ content words p
content-same words i p within = elim (cases_eq (p / 64) i) [
  | inl here ↦
      content-here words i (get_or words i 0) p within here ∙ sym (content-word words i p here)
  | inr apart ↦ content-else words i (get_or words i 0) p apart
]

-- the bits of a mask are set in word i
pub content-with_bits : (words : List ℕ) (i mask p : ℕ) → i < length words
    → content (with_bits words i mask) p
    ≡ (content words p || (eqb (p / 64) i && bit_is_on mask p))
content-with_bits words i mask p within = elim (cases_eq (p / 64) i) [
  | inl here ↦
      content-here words i (bit_or (get_or words i 0) mask) p within here
      ∙ bit_is_on-or (get_or words i 0) mask p
      ∙ ap (λ b. b || bit_is_on mask p) (sym (content-word words i p here))
      ∙ ap (λ b. content words p || (b && bit_is_on mask p)) (sym (eq-eqb (p / 64) i here))
  | inr apart ↦
      content-else words i (bit_or (get_or words i 0) mask) p apart
      ∙ sym (or-false (content words p))
      ∙ ap (λ b. content words p || (b && bit_is_on mask p)) (sym (ne_eqb (p / 64) i apart))
]
