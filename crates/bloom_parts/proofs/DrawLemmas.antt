-- Sums over draws.
use Rattle.std.proofs.Common.{◌≡◌, ℕ, zero, suc, ◌+◌, ◌*◌, ◌^◌, ◌≤◌, List, [], ◌∷◌, length, refl, ap, ◌∙◌, sym, arith}
use Rattle.bloom_parts.proofs.Common.{pow-zero, pow-suc, sum_below, sum_draws}
use Rattle.bloom_parts.proofs.SumLemmas.{below-add, below-scale, below-const, below-le, below-same}

-- a sum is monotone
pub draws-le : (b t : ℕ) (f g : List ℕ → ℕ) → ((d : List ℕ) → length d ≡ t → f d ≤ g d) →
    sum_draws b t f ≤ sum_draws b t g
unfolding sum_draws
draws-le b zero f g less = less [] refl
draws-le b (suc t) f g less =
    below-le b (λ p. sum_draws b t (λ d. f (p ∷ d))) (λ p. sum_draws b t (λ d. g (p ∷ d)))
    (λ p small. draws-le b t (λ d. f (p ∷ d)) (λ d. g (p ∷ d)) (λ d is. less (p ∷ d) (ap suc is)))

-- sums of equal terms are equal
pub draws-same : (b t : ℕ) (f g : List ℕ → ℕ) → ((d : List ℕ) → f d ≡ g d) →
    sum_draws b t f ≡ sum_draws b t g
draws-same b t f g same =
    omega (
      arith,
      draws-le b t f g (λ d is. omega (arith, same d)),
      draws-le b t g f (λ d is. omega (arith, same d)),
    )

-- a sum of sums
pub draws-add : (b t : ℕ) (f g : List ℕ → ℕ) →
    sum_draws b t (λ d. f d + g d) ≡ sum_draws b t f + sum_draws b t g
unfolding sum_draws
draws-add b zero f g = refl
draws-add b (suc t) f g =
    below-same b _ _ (λ p small. draws-add b t (λ d. f (p ∷ d)) (λ d. g (p ∷ d)))
    ∙ below-add b (λ p. sum_draws b t (λ d. f (p ∷ d))) (λ p. sum_draws b t (λ d. g (p ∷ d)))

-- a sum of multiples
pub draws-scale : (b t c : ℕ) (f : List ℕ → ℕ) →
    sum_draws b t (λ d. c * f d) ≡ c * sum_draws b t f
unfolding sum_draws
draws-scale b zero c f = refl
draws-scale b (suc t) c f =
    below-same b _ _ (λ p small. draws-scale b t c (λ d. f (p ∷ d)))
    ∙ below-scale b c (λ p. sum_draws b t (λ d. f (p ∷ d)))

-- a sum of ones
pub draws-all : (b t : ℕ) → sum_draws b t (λ d. 1) ≡ b ^ t
unfolding sum_draws
draws-all b zero = sym (pow-zero b)
draws-all b (suc t) =
    below-same b _ _ (λ p small. draws-all b t) ∙ below-const b (b ^ t)
    ∙ omega (arith, pow-suc b t)

-- a sum of zeros
pub draws-none : (b t : ℕ) → sum_draws b t (λ d. 0) ≡ 0
unfolding sum_draws
draws-none b zero = refl
draws-none b (suc t) = below-same b _ _ (λ p small. draws-none b t) ∙ omega (arith, below-const b 0)

-- the order of two sums is free
pub draws-below : (b t n : ℕ) (h : List ℕ → ℕ → ℕ) → sum_draws b t (λ d. sum_below n (h d))
    ≡ sum_below n (λ p. sum_draws b t (λ d. h d p))
unfolding sum_below
draws-below b t zero h = draws-none b t
draws-below b t (suc n) h =
    draws-add b t (λ d. sum_below n (h d)) (λ d. h d n)
    ∙ ap (λ v. v + sum_draws b t (λ d. h d n)) (draws-below b t n h)

-- the order of two sums over draws is free
pub draws-draws : (b t k : ℕ) (h : List ℕ → List ℕ → ℕ) →
    sum_draws b t (λ d. sum_draws b k (h d)) ≡ sum_draws b k (λ q. sum_draws b t (λ d. h d q))
unfolding sum_draws
draws-draws b t zero h = refl
draws-draws b t (suc k) h =
    draws-below b t b (λ d p. sum_draws b k (λ q. h d (p ∷ q)))
    ∙ below-same b _ _ (λ p small. draws-draws b t k (λ d q. h d (p ∷ q)))
