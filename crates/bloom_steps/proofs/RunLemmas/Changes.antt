-- What a record changes, and what stays.
use Rattle.bloom_steps.proofs.Common.{take-more, Answer, Record, Step, Or, and_from, and_parts, both_ways, eqb-true, not-true, eqb_tells, bit_is_on, content, moment, turns_off, turns_on, after_records, or_at, record_decides, step_decides, Course}
use Rattle.std.proofs.Common.{◌%◌, ◌&&◌, ◌+◌, ◌/◌, ◌<◌, ◌^◌, ◌∙◌, ◌≡◌, ◌≢◌, ◌≤◌, ◌⊎◌, Bool, None, Option, Some, ap, arith, eq-eqb, false, if◌then◌else◌, inl, inr, nat_eq, not, refl, slice_get, suc, sym, take, true, unwrap_or, zero, ℕ}
use Rattle.std.proofs.lemmas.Nat.Bits.{bit_at-pow_other, bit_at-pow_same}
use Rattle.bloom_steps.proofs.StepLemmas.Deciding.{records-more}

-- the mask of a position has its bit
own_mask : (q : ℕ) → bit_is_on (2 ^ (q % 64)) q ≡ true
own_mask q = ap (λ b. nat_eq b 1) (bit_at-pow_same (q % 64))

-- the mask of a position has no other bit of its word
mask_alone : (q j : ℕ) → bit_is_on (2 ^ (q % 64)) j ≡ true → j % 64 ≡ q % 64
mask_alone q j on = elim (eqb_tells (j % 64) (q % 64)) [
  | inl same ↦ same.1
  | inr other ↦
      let off : bit_is_on (2 ^ (q % 64)) j ≡ false =
      ap (λ b. nat_eq b 1) (bit_at-pow_other (q % 64) (j % 64) other.1) in
      absurd (both_ways (bit_is_on (2 ^ (q % 64)) j) off on)
]

-- both tests pass, or not both do
pub and_cases : (a b : Bool) → ((a ≡ true) × (b ≡ true)) ⊎ ((a && b) ≡ false)
and_cases true true = inl (refl, refl)
and_cases true false = inr refl
and_cases false b = inr refl

-- the step that sets a position decides that it is set
pub or_at-own : (q : ℕ) → step_decides (or_at q) q ≡ Some true
or_at-own q =
    ap (λ b. if b && bit_is_on (2 ^ (q % 64)) q then Some true else None)
    (eq-eqb (q / 64) (q / 64) refl)
    ∙ ap (λ b. if b then Some true else None) (own_mask q)

-- the step that sets a position decides that it is set, and leaves the others
pub or_at-decides : (q j : ℕ)
    → ((j ≡ q) × (step_decides (or_at q) j ≡ Some true))
    ⊎ ((j ≢ q) × (step_decides (or_at q) j ≡ None))
or_at-decides q j = elim (eqb_tells j q) [
  | inl same ↦ inl (same.1, ap (step_decides (or_at q)) same.1 ∙ or_at-own q)
  | inr other ↦ inr (
    other.1,
    elim (and_cases (nat_eq (j / 64) (q / 64)) (bit_is_on (2 ^ (q % 64)) j)) [
      | inl both ↦
          let word = eqb-true (j / 64) (q / 64) both.0 in
          let bit = mask_alone q j both.1 in
          absurd (other.1 (omega arith))
      | inr off ↦ ap (λ b. if b then Some true else None) off
    ],
  )
]

-- a step decides nothing of a position, or this
abbrev pub DecidesOnly : Option Bool → ℕ → Step → Type 0
DecidesOnly d q step = (step_decides step q ≡ None) ⊎ (step_decides step q ≡ d)

-- what is decided where a test passes is decided, or nothing is
pub only-where : (test : Bool) (d : Option Bool)
    → ((if test then d else None) ≡ None) ⊎ ((if test then d else None) ≡ d)
only-where true d = inr refl
only-where false d = inl refl

-- a mask that sets bits decides to clear nothing
pub or-decides_only : (i mask q : ℕ) → DecidesOnly (Some true) q (Or i mask)
or-decides_only i mask q = only-where (nat_eq (q / 64) i && bit_is_on mask q) (Some true)

-- a position is cleared by record m
abbrev pub TurnsOff : Course → ℕ → ℕ → Type 0
TurnsOff run m p = (moment run m p ≡ true) × (moment run (m + 1) p ≡ false)

-- a run, whatever its records
module _ (run : Course) where
  -- a record that clears a position is no record that doesn't
  pub not_turned_off : (m p : ℕ) → turns_off run m p ≡ false → TurnsOff run m p → ⊥
  not_turned_off m p calm off =
      both_ways (turns_off run m p) calm (and_from (moment run m p) _ off.0 (ap not off.1))

  -- a position that a record set was clear before, and is set after
  pub turned_on : (m p : ℕ) → turns_on run m p ≡ true
      → (moment run m p ≡ false) × (moment run (m + 1) p ≡ true)
  turned_on m p on =
      let parts = and_parts (not (moment run m p)) (moment run (m + 1) p) on in
      (not-true (moment run m p) parts.0, parts.1)

  -- a position that was clear before a record and is set after was set by it
  pub turning_on : (m p : ℕ) → moment run m p ≡ false → moment run (m + 1) p ≡ true
      → turns_on run m p ≡ true
  turning_on m p off on = and_from (not (moment run m p)) (moment run (m + 1) p) (ap not off) on

  -- a record's decision shows at the next moment
  pub moment-more : (m : ℕ) (r : Record) (q : ℕ) → slice_get run.records m ≡ Some r
      → moment run (m + 1) q ≡ unwrap_or (record_decides r q) (moment run m q)
  moment-more m r q at =
      ap (λ l. after_records (content run.start) l q) (take-more run.records m r at)
      ∙ records-more (content run.start) (take m run.records) r q

  -- what is set stays set where nothing clears it
  pub persists : (q first n m : ℕ) → m ≡ first + n → moment run first q ≡ true
      → ((j : ℕ) → first ≤ j → j < m → TurnsOff run j q → ⊥) → moment run m q ≡ true
  persists q first zero m e on calm =
      let same : first ≡ m = omega (arith, e) in ap (λ j. moment run j q) (sym same) ∙ on
  persists q first (suc n) m e on calm =
      let before =
      persists q first n (first + n) refl on (λ j l u. calm j l (omega (arith, u, e))) in
      let same : (first + n) + 1 ≡ m = omega (arith, e) in
      ap (λ j. moment run j q) (sym same) ∙ go (moment run ((first + n) + 1) q) refl before
    where
      go : (b : Bool) → moment run ((first + n) + 1) q ≡ b → moment run (first + n) q ≡ true
          → moment run ((first + n) + 1) q ≡ true
      go true is before = is
      go false is before = absurd (calm (first + n) (omega arith) (omega (arith, e)) (before, is))

-- answers are told apart
pub same-answer : (a b : Bool) → Answer a ≡ Answer b → a ≡ b
same-answer a b e = cc
