-- Sums over the numbers below a bound.
use Rattle.std.proofs.Common.{◌≡◌, ℕ, zero, suc, ◌+◌, ◌*◌, ◌<◌, ◌≤◌, Bool, eqb, if◌then◌else◌, refl, ap, sym, arith, inl, inr}
use Rattle.bloom_parts.proofs.Common.{cases_lt, cond-true, cond-false, eq-eqb, ne_eqb, count_on, sum_below, one_if}

-- a sum of sums
pub below-add : (b : ℕ) (f g : ℕ → ℕ) →
    sum_below b (λ p. f p + g p) ≡ sum_below b f + sum_below b g
unfolding sum_below
below-add zero f g = omega arith
below-add (suc b) f g = omega (arith, below-add b f g)

-- a sum of multiples
pub below-scale : (b c : ℕ) (f : ℕ → ℕ) → sum_below b (λ p. c * f p) ≡ c * sum_below b f
unfolding sum_below
below-scale zero c f = omega arith
below-scale (suc b) c f = omega (arith, below-scale b c f)

-- a sum of one number
pub below-const : (b c : ℕ) → sum_below b (λ p. c) ≡ b * c
unfolding sum_below
below-const zero c = omega arith
below-const (suc b) c = omega (arith, below-const b c)

-- a sum is monotone
pub below-le : (b : ℕ) (f g : ℕ → ℕ) → ((p : ℕ) → p < b → f p ≤ g p) →
    sum_below b f ≤ sum_below b g
unfolding sum_below
below-le zero f g less = omega arith
below-le (suc b) f g less =
    omega (arith, below-le b f g (λ p small. less p (omega arith)), less b (omega arith))

-- sums of equal terms are equal
pub below-same : (b : ℕ) (f g : ℕ → ℕ) → ((p : ℕ) → p < b → f p ≡ g p) →
    sum_below b f ≡ sum_below b g
below-same b f g same =
    omega (
      arith,
      below-le b f g (λ p small. omega (arith, same p small)),
      below-le b g f (λ p small. omega (arith, same p small)),
    )

-- a term of the sum, and the others
pub below-split : (b p : ℕ) (g : ℕ → ℕ) → p < b →
    sum_below b g ≡ g p + sum_below b (λ x. if eqb x p then 0 else g x)
unfolding sum_below
below-split zero p g small = absurd (omega arith)
below-split (suc b) p g small = elim (cases_lt p b) [
  | inl before ↦
      let last = cond-false (eqb b p) 0 (g b) (ne_eqb b p (λ is. omega (arith, is, before))) in
      omega (arith, below-split b p g before, last)
  | inr after ↦
      let here : p ≡ b = omega (arith, small, after) in
      let last = cond-true (eqb b p) 0 (g b) (eq-eqb b p (sym here)) in
      let first = below-same b (λ x. if eqb x p then 0 else g x) g (λ x less.
      cond-false (eqb x p) 0 (g x) (ne_eqb x p (λ is. omega (arith, is, less, here)))) in
      omega (arith, ap g here, last, first)
]

-- a number at each place but one
pub below-others : (m p c : ℕ) → p < suc m →
    sum_below (suc m) (λ x. if eqb x p then 0 else c) ≡ m * c
below-others m p c small =
    omega (arith, below-split (suc m) p (λ x. c) small, below-const (suc m) c)

-- a set has as many members as a sum has ones
pub sum-count : (A : ℕ → Bool) (b : ℕ) → sum_below b (λ p. one_if (A p)) ≡ count_on A b
unfolding sum_below count_on
sum-count A zero = refl
sum-count A (suc b) = ap (λ v. v + one_if (A b)) (sum-count A b)
