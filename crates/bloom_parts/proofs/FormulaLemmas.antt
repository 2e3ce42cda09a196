-- The classical formula is at most the rate, by Chebyshev's sum inequality for powers of the number
-- of positions that were drawn.
use Rattle.std.proofs.Common.{◌≡◌, ℕ, zero, suc, ◌+◌, ◌-◌, ◌*◌, ◌^◌, ◌≤◌, List, ap, ◌∙◌, sym, arith, inl, inr}
use Rattle.bloom_parts.proofs.Common.{cases_lt, mul-pow, pow-add, mul-le-mul_left, mul-le-mul_right, pow-le-pow_left, pow-suc, pow-zero, count_on, sum_draws, is_drawn, drawn_lists, false_positives, FormulaLaw}
use Rattle.bloom_parts.proofs.DrawLemmas.{draws-le, draws-same, draws-add, draws-scale, draws-all}
use Rattle.bloom_parts.proofs.MeanLemmas.{mean-suc, powers_law}

-- two numbers and two others in the same order
ordered-products : (x y p q : ℕ) → x ≤ y → p ≤ q → x * q + y * p ≤ x * p + y * q
ordered-products x y p q first second =
    let u : ℕ = y - x in
    let v : ℕ = q - p in
    let more : y ≡ x + u = omega arith in
    let over : q ≡ p + v = omega arith in
    rw (more, over) (omega arith)

-- two numbers and their powers
power-products : (x y k : ℕ) → x * y ^ k + y * x ^ k ≤ x * x ^ k + y * y ^ k
power-products x y k = elim (cases_lt x y) [
  | inl less ↦ ordered-products x y (x ^ k) (y ^ k) (omega arith) (pow-le-pow_left (omega arith) k)
  | inr over ↦
      omega (arith, ordered-products y x (y ^ k) (x ^ k) over (pow-le-pow_left over k))
]

-- sums of a combination of two numbers
draws-mix : (b t a c : ℕ) (f g : List ℕ → ℕ) →
    sum_draws b t (λ d. a * f d + c * g d) ≡ a * sum_draws b t f + c * sum_draws b t g
draws-mix b t a c f g =
    omega (
      arith,
      draws-add b t (λ d. a * f d) (λ d. c * g d),
      draws-scale b t a f,
      draws-scale b t c g,
    )

-- Chebyshev's sum inequality for a number and its power
module _ (b t k : ℕ) (x : List ℕ → ℕ) where
  chebyshev-one : (y : ℕ) →
      y * sum_draws b t (λ d. x d ^ k) + y ^ k * sum_draws b t x
      ≤ y * y ^ k * sum_draws b t (λ d. 1) + 1 * sum_draws b t (λ d. x d * x d ^ k)
  chebyshev-one y =
      let each = draws-le b t (λ d. y * x d ^ k + y ^ k * x d)
      (λ d. y * y ^ k * 1 + 1 * (x d * x d ^ k))
      (λ d is. omega (arith, power-products y (x d) k)) in
      omega (
        arith,
        each,
        draws-mix b t y (y ^ k) (λ d. x d ^ k) x,
        draws-mix b t (y * y ^ k) 1 (λ d. 1) (λ d. x d * x d ^ k),
      )

  chebyshev : sum_draws b t x * sum_draws b t (λ d. x d ^ k)
      ≤ b ^ t * sum_draws b t (λ d. x d * x d ^ k)
  chebyshev =
      let first : ℕ = sum_draws b t x in
      let power : ℕ = sum_draws b t (λ d. x d ^ k) in
      let next : ℕ = sum_draws b t (λ d. x d * x d ^ k) in
      let all : ℕ = sum_draws b t (λ d. 1) in
      let each : sum_draws b t (λ d. power * x d + first * x d ^ k)
      ≤ sum_draws b t (λ d. all * (x d * x d ^ k) + next * 1) =
      draws-le b t (λ d. power * x d + first * x d ^ k) (λ d. all * (x d * x d ^ k) + next * 1)
      (λ d is. omega (arith, chebyshev-one (x d))) in
      let left : sum_draws b t (λ d. power * x d + first * x d ^ k)
      ≡ power * first + first * power = draws-mix b t power first x (λ d. x d ^ k) in
      let right : sum_draws b t (λ d. all * (x d * x d ^ k) + next * 1)
      ≡ all * next + next * all = draws-mix b t all next (λ d. x d * x d ^ k) (λ d. 1) in
      let count : b ^ t * next ≡ all * next = ap (λ v. v * next) (sym (draws-all b t)) in
      omega (arith, each, left, right, count)

-- means of powers
power-mean : (b t : ℕ) (x : List ℕ → ℕ) (k : ℕ) →
    sum_draws b t x ^ k * b ^ t ≤ sum_draws b t (λ d. x d ^ k) * (b ^ t) ^ k
power-mean b t x zero =
    let one : sum_draws b t (λ d. x d ^ 0) ≡ b ^ t =
    draws-same b t _ _ (λ d. pow-zero (x d)) ∙ draws-all b t in
    rw (one, pow-zero (sum_draws b t x), pow-zero (b ^ t)) (omega arith)
power-mean b t x (suc k) =
    let first : ℕ = sum_draws b t x in
    let power : ℕ = sum_draws b t (λ d. x d ^ k) in
    let next : ℕ = sum_draws b t (λ d. x d * x d ^ k) in
    let same : sum_draws b t (λ d. x d ^ suc k) ≡ next =
    draws-same b t _ _ (λ d. omega (arith, pow-suc (x d) k)) in
    let before : first * (first ^ k * b ^ t) ≤ first * (power * (b ^ t) ^ k) =
    mul-le-mul_left first (power-mean b t x k) in
    let step : (first * power) * (b ^ t) ^ k ≤ (b ^ t * next) * (b ^ t) ^ k =
    mul-le-mul_right ((b ^ t) ^ k) (chebyshev b t k x) in
    rw (same, pow-suc first k, pow-suc (b ^ t) k) (omega (arith, before, step))

-- the formula and the rate, with one position more than m
formula-suc : (m t k : ℕ) → drawn_lists (suc m) t ^ k * suc m ^ (t + k)
    ≤ false_positives (suc m) t k * (suc m ^ t) ^ k
formula-suc m t k =
    let less : suc m - 1 ≡ m = omega arith in
    let mean = power-mean (suc m) t (λ d. count_on (is_drawn d) (suc m)) k in
    let counted = rw (
      mean-suc m t,
      ← powers_law (suc m) t k,
      mul-pow (suc m) (suc m ^ t - m ^ t) k,
    ) at mean in
    rw (less, pow-add (suc m) t k) (omega (arith, counted))

pub formula_law : FormulaLaw
formula_law zero t k some = absurd (omega arith)
formula_law (suc m) t k some = formula-suc m t k
