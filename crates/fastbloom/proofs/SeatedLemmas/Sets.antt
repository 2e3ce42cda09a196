-- Sets as lists, and the positions of one word.
use Rattle.std.proofs.Common.{◌≡◌, ℕ, zero, suc, ◌+◌, ◌*◌, ◌/◌, ◌%◌, ◌<◌, ◌≤◌, ◌⊎◌, Bool, true, false, not, ◌||◌, ◌&&◌, eqb, if◌then◌else◌, List, [], ◌∷◌, ◌++◌, refl, sym, ap, ◌∙◌, subst, inl, inr, arith}
use Rattle.std.proofs.lemmas.Bool.{both_ways, or_cases, or_left, or_right, and_parts, and_from, eqb-true, eq-eqb, not-true, cases_eq}
use Rattle.bloom_parts.specs.Content.{bit_is_on}
use Rattle.fastbloom.specs.Sets.{set_of, picked, ones_in, fresh_in}

-- nothing is in the set of the empty list
pub in-none : (p : ℕ) → set_of [] p ≡ true → ⊥
unfolding set_of
in-none p is = both_ways false refl is

-- what is in the first list, or in the second, is in both together
pub in-left : (xs ys : List ℕ) (p : ℕ) → set_of xs p ≡ true → set_of (xs ++ ys) p ≡ true
unfolding set_of
in-left [] ys p is = absurd (both_ways false refl is)
in-left (x ∷ xs) ys p is = elim (or_cases (eqb p x) (set_of xs p) is) [
  | inl here ↦ or_left (eqb p x) (set_of (xs ++ ys) p) here
  | inr later ↦ or_right (eqb p x) (set_of (xs ++ ys) p) (in-left xs ys p later)
]

pub in-right : (xs ys : List ℕ) (p : ℕ) → set_of ys p ≡ true → set_of (xs ++ ys) p ≡ true
unfolding set_of
in-right [] ys p is = is
in-right (x ∷ xs) ys p is = or_right (eqb p x) (set_of (xs ++ ys) p) (in-right xs ys p is)

-- what is in two lists together is in one of them
pub in-either : (xs ys : List ℕ) (p : ℕ) → set_of (xs ++ ys) p ≡ true
    → (set_of xs p ≡ true) ⊎ (set_of ys p ≡ true)
unfolding set_of
in-either [] ys p is = inr is
in-either (x ∷ xs) ys p is = elim (or_cases (eqb p x) (set_of (xs ++ ys) p) is) [
  | inl here ↦ inl (or_left (eqb p x) (set_of xs p) here)
  | inr later ↦ elim (in-either xs ys p later) [
    | inl first ↦ inl (or_right (eqb p x) (set_of xs p) first)
    | inr second ↦ inr second
  ]
]

-- two tests of which each implies the other are one
pub same-tests : (a b : Bool) → (a ≡ true → b ≡ true) → (b ≡ true → a ≡ true) → a ≡ b
same-tests true b to from = sym (to refl)
same-tests false true to from = from refl
same-tests false false to from = refl

-- the set of two lists together
pub set_of-append : (xs ys : List ℕ) (p : ℕ) → set_of (xs ++ ys) p ≡ (set_of xs p || set_of ys p)
set_of-append xs ys p =
    same-tests (set_of (xs ++ ys) p) (set_of xs p || set_of ys p)
    (λ is. elim (in-either xs ys p is) [
      | inl first ↦ or_left (set_of xs p) (set_of ys p) first
      | inr second ↦ or_right (set_of xs p) (set_of ys p) second
    ])
    (λ is. elim (or_cases (set_of xs p) (set_of ys p) is) [
      | inl first ↦ in-left xs ys p first
      | inr second ↦ in-right xs ys p second
    ])

-- a number that is put before a list where a test holds
pick-from : (b : Bool) (q : ℕ) (qs : List ℕ) (p : ℕ) → set_of (if b then q ∷ qs else qs) p ≡ true
    → ((b ≡ true) × (p ≡ q)) ⊎ (set_of qs p ≡ true)
unfolding set_of
pick-from true q qs p is = elim (or_cases (eqb p q) (set_of qs p) is) [
  | inl here ↦ inl (refl, eqb-true p q here)
  | inr later ↦ inr later
]
pick-from false q qs p is = inr is

pick-here : (b : Bool) (q : ℕ) (qs : List ℕ) → b ≡ true → set_of (if b then q ∷ qs else qs) q ≡ true
unfolding set_of
pick-here true q qs is = or_left (eqb q q) (set_of qs q) (eq-eqb q q refl)
pick-here false q qs is = absurd (both_ways false refl is)

pick-later : (b : Bool) (q : ℕ) (qs : List ℕ) (p : ℕ) → set_of qs p ≡ true
    → set_of (if b then q ∷ qs else qs) p ≡ true
unfolding set_of
pick-later true q qs p is = or_right (eqb p q) (set_of qs p) is
pick-later false q qs p is = is

-- where a picked position lies
picked-from : (i : ℕ) (test : ℕ → Bool) (n p : ℕ) → set_of (picked i test n) p ≡ true
    → (64 * i ≤ p) × (p < 64 * i + n) × (test p ≡ true)
unfolding picked
picked-from i test zero p is = absurd (in-none p is)
picked-from i test (suc n) p is =
    elim (pick-from (test (64 * i + n)) (64 * i + n) (picked i test n) p is) [
      | inl here ↦ (omega (arith, here.1), omega (arith, here.1), ap test here.1 ∙ here.0)
      | inr later ↦
          let found = picked-from i test n p later in
          (found.0, omega (arith, found.1), found.2)
    ]

-- a position of the word that passes the test is picked
picked-to : (i : ℕ) (test : ℕ → Bool) (n bit : ℕ) → bit < n → test (64 * i + bit) ≡ true
    → set_of (picked i test n) (64 * i + bit) ≡ true
unfolding picked
picked-to i test zero bit below is = absurd (omega arith)
picked-to i test (suc n) bit below is = elim (cases_eq bit n) [
  | inl here ↦
      let same : 64 * i + n ≡ 64 * i + bit = omega arith in
      subst (λ q. set_of (if test (64 * i + n) then (64 * i + n) ∷ picked i test n
      else picked i test n) q ≡ true) same
      (pick-here (test (64 * i + n)) (64 * i + n) (picked i test n) (ap test same ∙ is))
  | inr apart ↦
      pick-later (test (64 * i + n)) (64 * i + n) (picked i test n) (64 * i + bit)
      (picked-to i test n bit (omega (arith, apart)) is)
]

-- the positions of a whole word that pass a test
whole-from : (i : ℕ) (test : ℕ → Bool) (p : ℕ) → set_of (picked i test 64) p ≡ true
    → (p / 64 ≡ i) × (test p ≡ true)
whole-from i test p is =
    let found = picked-from i test 64 p is in
    let least : 64 * i ≤ p = found.0 in
    let most : p < 64 * i + 64 = found.1 in
    (omega arith, found.2)

whole-to : (i : ℕ) (test : ℕ → Bool) (p : ℕ) → p / 64 ≡ i → test p ≡ true
    → set_of (picked i test 64) p ≡ true
whole-to i test p word is =
    let same : 64 * i + p % 64 ≡ p = omega arith in
    subst (λ q. set_of (picked i test 64) q ≡ true) same
    (picked-to i test 64 (p % 64) (omega arith) (ap test same ∙ is))

-- the positions that are set in a word
pub on-from : (i word p : ℕ) → set_of (ones_in i word) p ≡ true
    → (p / 64 ≡ i) × (bit_is_on word p ≡ true)
on-from i word p is = whole-from i (bit_is_on word) p is

pub on-to : (i word p : ℕ) → p / 64 ≡ i → bit_is_on word p ≡ true → set_of (ones_in i word) p ≡ true
on-to i word p here is = whole-to i (bit_is_on word) p here is

-- the positions that are set in a mask and clear in the word found
module _ (i mask found : ℕ) where
  pub fresh-from : (p : ℕ) → set_of (fresh_in i mask found) p ≡ true
      → (p / 64 ≡ i) × (bit_is_on mask p ≡ true) × (bit_is_on found p ≡ false)
  fresh-from p is =
      let there = whole-from i (λ q. bit_is_on mask q && not (bit_is_on found q)) p is in
      let parts = and_parts (bit_is_on mask p) (not (bit_is_on found p)) there.1 in
      (there.0, parts.0, not-true (bit_is_on found p) parts.1)

  pub fresh-to : (p : ℕ) → p / 64 ≡ i → bit_is_on mask p ≡ true → bit_is_on found p ≡ false
      → set_of (fresh_in i mask found) p ≡ true
  fresh-to p here on off =
      whole-to i (λ q. bit_is_on mask q && not (bit_is_on found q)) p here
      (and_from (bit_is_on mask p) (not (bit_is_on found p)) on (ap not off))
