-- Sets that are compared number by number, for the facts on worked cases.
use Rattle.std.proofs.Common.{◌≡◌, ℕ, zero, suc, ◌*◌, ◌/◌, ◌%◌, ◌^◌, ◌<◌, ◌≤◌, Bool, true, false, ◌&&◌, not, cond, eqb, List, length, refl, sym, ◌∙◌, ap, arith, inl, inr}
use Rattle.std.proofs.lemmas.Bool.{cases_eq, cases_lt, and_parts, false_from_ne_true}
use Rattle.std.proofs.lemmas.List.{get_or_past}
use Rattle.std.proofs.lemmas.Nat.Bits.{bit_at-zero}
use Rattle.bloom_parts.specs.Content.{bit_is_on, content}
use Rattle.bloom_parts.specs.Places.{positions}
use Rattle.bloom_parts.proofs.PublishedLemmas.{range_law}

-- whether two sets have the same numbers below a bound
abbrev pub alike_below : ℕ → (ℕ → Bool) → (ℕ → Bool) → Bool
alike_below zero A B = true
alike_below (suc n) A B = alike_below n A B && cond (A n) (B n) (not (B n))

-- one value of a truth table tells that both are the same
same-truth : (a b : Bool) → cond a b (not b) ≡ true → a ≡ b
same-truth true b is = sym is
same-truth false true is = is
same-truth false false is = refl

-- sets that were found alike are alike at each number below the bound
alike-below : (n : ℕ) (A B : ℕ → Bool) → alike_below n A B ≡ true → (p : ℕ) → p < n → A p ≡ B p
alike-below zero A B all p below = absurd (omega (arith, below))
alike-below (suc n) A B all p below =
    let parts = and_parts (alike_below n A B) (cond (A n) (B n) (not (B n))) all in
    elim (cases_eq p n) [
      | inl same ↦ ap A same ∙ same-truth (A n) (B n) parts.1 ∙ ap B (sym same)
      | inr apart ↦ alike-below n A B parts.0 p (omega (arith, below, apart))
    ]

-- past the bits of words no position is set
pub content-past : (words : List ℕ) (p : ℕ) → 64 * length words ≤ p → content words p ≡ false
unfolding content
content-past words p past =
    let outside : length words ≤ p / 64 = omega (arith, past) in
    ap (λ word. bit_is_on word p) (get_or_past words (p / 64) 0 outside)
    ∙ ap (λ d. eqb d 1) (bit_at-zero (p % 64))

-- past the bits of a filter no hash has a position
pub positions-past : (n k hash p : ℕ) → 0 < n → hash < 2 ^ 64 → n ≤ p → positions n k hash p ≡ false
positions-past n k hash p some fits past =
    false_from_ne_true (positions n k hash p)
    (λ on. let below = range_law n k hash p some fits on in omega (arith, below, past))

-- words have the content of a set, if both agree below the bits and the set has nothing past them
pub content-case : (words : List ℕ) (A : ℕ → Bool)
    → alike_below (64 * length words) (content words) A ≡ true
    → ((p : ℕ) → 64 * length words ≤ p → A p ≡ false) → (p : ℕ) → content words p ≡ A p
content-case words A alike none p = elim (cases_lt p (64 * length words)) [
  | inl below ↦ alike-below (64 * length words) (content words) A alike p below
  | inr past ↦ content-past words p past ∙ sym (none p past)
]
