-- Positions of a hash, one after the other.
use Rattle.std.proofs.Common.{◌≡◌, ℕ, zero, suc, ◌*◌, ◌/◌, ◌^◌, ◌<◌, Bool, true, false, eqb, refl, sym, ◌∙◌, ap, subst, arith, inl, inr, lit<}
use Rattle.std.proofs.lemmas.Bool.{cases_lt, or_cases, and_parts, and_from, or_left, or_right, eqb-true, eq-eqb, false_from_ne_true, both_ways}
use Rattle.std.proofs.Math.Nat.{div-lt_iff_lt-mul, mul-lt-mul_of_pos_right, mul_comm}
use Rattle.bloom_parts.proofs.Common.{chain, place, positions, are_in, IsPosition, IsPart, PositionsLaw, SubsetLaw, RangeLaw}
use Rattle.bloom_parts.proofs.StretchLemmas.{are_in_from-start, part-of, positions_from-start}

-- a position is one of the places
pub position-from : (n k hash p : ℕ) → positions n k hash p ≡ true → IsPosition n k hash p
unfolding positions
position-from n zero hash p is = absurd (both_ways false refl is)
position-from n (suc k) hash p is =
    elim (or_cases (positions n k hash p) (eqb p (place n hash k)) is) [
      | inl earlier ↦
          let found = position-from n k hash p earlier in
          record { index = found.index; below = omega (arith, found.below); here = found.here }
      | inr here ↦
          record { index = k; below = omega arith; here = sym (eqb-true p (place n hash k) here) }
    ]

-- each place is a position
pub position-to : (n k hash p : ℕ) → IsPosition n k hash p → positions n k hash p ≡ true
unfolding positions
position-to n zero hash p found = absurd (omega (arith, found.below))
position-to n (suc k) hash p found = elim (cases_lt found.index k) [
  | inl earlier ↦
      or_left (positions n k hash p) (eqb p (place n hash k))
      (position-to n k hash p
      (record { index = found.index; below = earlier; here = found.here }))
  | inr late ↦
      let same : found.index ≡ k = omega (arith, found.below) in
      or_right (positions n k hash p) (eqb p (place n hash k))
      (eq-eqb p (place n hash k) (sym found.here ∙ ap (place n hash) same))
]

-- a place among the first k is a position
pub place-position : (n k hash i : ℕ) → i < k → IsPosition n k hash (place n hash i)
place-position n k hash i below = record { index = i; below = below; here = refl }

-- the law of positions
pub positions_law : PositionsLaw
positions_law n k hash p = (position-from n k hash p, position-to n k hash p)

-- where all are in a set, their positions are a part of it
pub part-from : (n k hash : ℕ) (A : ℕ → Bool) → are_in n k hash A ≡ true
    → IsPart (positions n k hash) A
part-from n k hash A all p is =
    part-of n 0 k hash A (are_in_from-start n k hash A ∙ all) p
    (positions_from-start n k hash p ∙ is)

-- where the positions of a hash are a part of a set, all its places are in it
pub part-to : (n k hash : ℕ) (A : ℕ → Bool) → IsPart (positions n k hash) A
    → are_in n k hash A ≡ true
unfolding positions are_in
part-to n zero hash A part = refl
part-to n (suc k) hash A part =
    let here = place n hash k in
    and_from (are_in n k hash A) (A (place n hash k))
    (part-to n k hash A
    (λ p is. part p (or_left (positions n k hash p) (eqb p (place n hash k)) is)))
    (part here (or_right (positions n k hash here) (eqb here here) (eq-eqb here here refl)))

-- the law of the subset test
pub subset_law : SubsetLaw
subset_law n k hash A = (part-from n k hash A, part-to n k hash A)

-- where all are in a set, each is
pub are_in-at : (n k hash : ℕ) (A : ℕ → Bool) (i : ℕ) → i < k → are_in n k hash A ≡ true
    → A (place n hash i) ≡ true
unfolding are_in
are_in-at n zero hash A i below all = absurd (omega arith)
are_in-at n (suc k) hash A i below all =
    let parts = and_parts (are_in n k hash A) (A (place n hash k)) all in
    elim (cases_lt i k) [
      | inl earlier ↦ are_in-at n k hash A i earlier parts.0
      | inr late ↦ let same : i ≡ k = omega arith in ap (λ j. A (place n hash j)) same ∙ parts.1
    ]

-- one that is clear decides the reply
pub are_in-off : (n k hash : ℕ) (A : ℕ → Bool) (i : ℕ) → i < k → A (place n hash i) ≡ false
    → are_in n k hash A ≡ false
are_in-off n k hash A i below off =
    false_from_ne_true (are_in n k hash A)
    (λ all. both_ways (A (place n hash i)) off (are_in-at n k hash A i below all))

-- a chain of words goes on in words
chain-fits : (hash i : ℕ) → hash < 2 ^ 64 → chain hash i < 2 ^ 64
unfolding chain
chain-fits hash zero fits = fits
chain-fits hash (suc i) fits = omega arith

-- a part of n that is a hash's share of 2^64 is below n
share-below : (n hash : ℕ) → 0 < n → hash < 2 ^ 64 → hash * n / 2 ^ 64 < n
share-below n hash some fits =
    let below : hash * n < 2 ^ 64 * n = mul-lt-mul_of_pos_right fits some in
    (div-lt_iff_lt-mul (lit< tt)).1 (subst (λ m. hash * n < m) (mul_comm (2 ^ 64) n) below)

-- the law of ranges
pub range_law : RangeLaw
range_law n k hash p some fits is =
    let found = position-from n k hash p is in
    subst (λ q. q < n) found.here
    (share-below n (chain hash found.index) some (chain-fits hash found.index fits))
