-- The bits of a word and of a mask.
use Rattle.std.proofs.Common.{◌&&◌, ◌<◌, ◌^◌, ◌∙◌, ◌≡◌, ◌≢◌, ◌≤◌, ◌⊎◌, ◌↔◌, Bool, ap, arith, bit_and, eq-eqb, false, inl, inr, min, nat_eq, not, refl, suc, sym, true, zero, ℕ}
use Rattle.bloom_steps.proofs.Common.{bit_at, and_parts, both_ways, cases_lt, eqb-false, eqb-true, not-true, HasAll}
use Rattle.std.proofs.lemmas.Nat.Bits.{bit_at-lt, bit_at-zero, bit_at_and, same_from_bits_below}

-- the lesser of two digits is the second, where that one asks for the first
lesser-second : (d e : ℕ) → d < 2 → e < 2 → (e ≡ 1 → d ≡ 1) → min d e ≡ e
lesser-second d e p q from = grind arith

-- the lesser of a digit and 1 is the digit
lesser : (d : ℕ) → d < 2 → min d 1 ≡ d
lesser d small = omega arith

-- the `&` with a mask is the mask exactly if all of its bits are set
pub has-all : (word mask : ℕ) → mask < 2 ^ 64 → bit_and word mask ≤ mask
    → (bit_and word mask ≡ mask) ↔ HasAll word mask
has-all word mask fits most = (
  (λ same b below on.
      let both : min (bit_at word b) (bit_at mask b) ≡ bit_at mask b =
      sym (bit_at_and word mask b) ∙ ap (λ m. bit_at m b) same in
      sym (lesser (bit_at word b) (bit_at-lt word b)) ∙ sym (ap (λ d. min (bit_at word b) d) on)
      ∙ both ∙ on),
  (λ all. same_from_bits_below 64 (bit_and word mask) mask (omega (arith, most, fits)) fits
      (λ b below. bit_at_and word mask b
      ∙ lesser-second (bit_at word b) (bit_at mask b) (bit_at-lt word b) (bit_at-lt mask b)
      (all b below))),
)

-- some number below a bound passes a test, or none does
some-below : (test : ℕ → Bool) (n : ℕ)
    → ((b : ℕ) × (b < n) × (test b ≡ true)) ⊎ ((b : ℕ) → b < n → test b ≡ false)
some-below test zero = inr (λ b below. absurd (omega (arith, below)))
some-below test (suc n) = here (some-below test n) (test n) refl
  where
    here : ((b : ℕ) × (b < n) × (test b ≡ true)) ⊎ ((b : ℕ) → b < n → test b ≡ false)
        → (at : Bool) → test n ≡ at
        → ((b : ℕ) × (b < suc n) × (test b ≡ true)) ⊎ ((b : ℕ) → b < suc n → test b ≡ false)
    here before true is = inl (n, omega arith, is)
    here (inl (b, below, on)) false is = inl (b, omega (arith, below), on)
    here (inr none) false is = inr (λ b below. elim (cases_lt b n) [
      | inl less ↦ none b less
      | inr most ↦ let same : n ≡ b = omega (arith, below, most) in sym (ap test same) ∙ is
    ])

-- a digit that isn't 1 is 0
digit-zero : (d : ℕ) → d < 2 → nat_eq d 1 ≡ false → d ≡ 0
digit-zero d small off = let apart = eqb-false d 1 off in omega arith

-- a mask that isn't 0 has a bit
pub some-bit : (mask : ℕ) → mask < 2 ^ 64 → mask ≢ 0
    → (b : ℕ) × (b < 64) × (nat_eq (bit_at mask b) 1 ≡ true)
some-bit mask fits some = elim (some-below (λ b. nat_eq (bit_at mask b) 1) 64) [
  | inl found ↦ found
  | inr none ↦ absurd (some (same_from_bits_below 64 mask 0 fits (omega arith) (λ b below.
      digit-zero (bit_at mask b) (bit_at-lt mask b) (none b below) ∙ sym (bit_at-zero b))))
]

-- a word that hasn't all bits of a mask lacks one
pub lacks-bit : (word mask : ℕ) → (HasAll word mask → ⊥)
    → (b : ℕ) × (b < 64) × (nat_eq (bit_at mask b) 1 ≡ true) × (nat_eq (bit_at word b) 1 ≡ false)
lacks-bit word mask not_all =
    elim (some-below (λ b. nat_eq (bit_at mask b) 1 && not (nat_eq (bit_at word b) 1)) 64) [
      | inl (b, below, on) ↦
          let parts = and_parts (nat_eq (bit_at mask b) 1) (not (nat_eq (bit_at word b) 1)) on in
          (b, below, parts.0, not-true (nat_eq (bit_at word b) 1) parts.1)
      | inr none ↦ absurd (not_all (λ b below on.
          eqb-true (bit_at word b) 1
          (has (nat_eq (bit_at mask b) 1) (nat_eq (bit_at word b) 1)
          (eq-eqb (bit_at mask b) 1 on) (none b below))))
    ]
  where
    has : (m x : Bool) → m ≡ true → (m && not x) ≡ false → x ≡ true
    has m true on none = refl
    has true false on none = absurd (both_ways true none refl)
    has false false on none = absurd (both_ways false refl on)
