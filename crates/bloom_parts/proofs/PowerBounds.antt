-- What rounded powers are bounds of.
use Rattle.std.proofs.Common.{add-zero, add-one, ◌≡◌, ℕ, zero, suc, ◌+◌, ◌*◌, ◌/◌, ◌%◌, ◌^◌, ◌<◌, ◌≤◌, refl, ap, ◌∙◌, arith, subst, sym}
use Rattle.std.proofs.Math.Nat.{le_of_mul-le-mul_right, mul-zero, pow-suc, pow-zero}
use Rattle.bloom_parts.proofs.Common.{mul-le, pow-add, next_power, rounded_power}
use Rattle.bloom_parts.proofs.PowerDigits.{half-below}

-- a power of a power
pub pow-pow : (a m n : ℕ) → (a ^ m) ^ n ≡ a ^ (m * n)
pow-pow a m zero = rw (mul-zero, pow-zero a, pow-zero (a ^ m)) refl
pow-pow a m (suc n) =
    let next : m * n + m ≡ m * suc n = omega arith in
    pow-suc (a ^ m) n ∙ ap (λ v. v * a ^ m) (pow-pow a m n) ∙ sym (pow-add a (m * n) m)
    ∙ ap (λ v. a ^ v) next

-- an exponent is twice its half, and its lowest digit
pub by-half : (e : ℕ) → e ≡ e / 2 + e / 2 + e % 2
by-half e = omega arith

-- a fact of numbers and fractions p / q that products keep holds of a power, and of the fraction's
module _ (Bound : ℕ → ℕ → ℕ → Type 0) (whole : ℕ) (product : ℕ → ℕ → ℕ) (start : Bound whole 1 1)
    (times : (r s P p Q q : ℕ) → Bound r P Q → Bound s p q → Bound (product r s) (P * p) (Q * q))
    (base p q : ℕ) (bound : Bound base p q) where
  -- the fact of a power holds of its square
  square-bound : (power h : ℕ) → Bound power (p ^ h) (q ^ h) →
      Bound (product power power) (p ^ (h + h)) (q ^ (h + h))
  square-bound power h is =
      rw (pow-add p h h, pow-add q h h) (times power power (p ^ h) (p ^ h) (q ^ h) (q ^ h) is is)

  -- the fact holds of what the next digit makes of the power
  next-bound : (power h digit : ℕ) → digit < 2 → Bound power (p ^ h) (q ^ h) →
      Bound (next_power product base power digit) (p ^ (h + h + digit)) (q ^ (h + h + digit))
  next-bound power h zero small is = rw add-zero (square-bound power h is)
  next-bound power h (suc zero) small is =
      let square = square-bound power h is in
      rw (add-one, pow-suc p (h + h), pow-suc q (h + h))
      (times (product power power) base (p ^ (h + h)) p (q ^ (h + h)) q square bound)
  next-bound power h (suc (suc digit)) small is = absurd (omega arith)

  -- the fact holds of the power to any exponent of this many digits
  pub power-bound : (digits e : ℕ) → e < 2 ^ digits →
      Bound (rounded_power whole product base digits e) (p ^ e) (q ^ e)
  unfolding rounded_power
  power-bound zero e below =
      let none : e ≡ 0 = omega (arith, below, pow-zero 2) in
      rw (none, pow-zero p, pow-zero q) start
  power-bound (suc digits) e below =
      let half = rounded_power whole product base digits (e / 2) in
      let is = power-bound digits (e / 2) (half-below digits e below) in
      subst (λ (x : ℕ). Bound (next_power product base half (e % 2)) (p ^ x) (q ^ x))
      (sym (by-half e)) (next-bound half (e / 2) (e % 2) (omega arith) is)

-- products rounded down keep lower bounds of fractions in parts of a whole
module _ (u : ℕ) (some : 0 < u) (product : ℕ → ℕ → ℕ) where
  -- for lower bounds of two fractions and of their product
  pub product-below : ((x y : ℕ) → product x y * u ≤ x * y) → (r s P p Q q : ℕ) →
      r * Q ≤ u * P → s * q ≤ u * p → product r s * (Q * q) ≤ u * (P * p)
  product-below down r s P p Q q first second =
      let rounded : (product r s * u) * (Q * q) ≤ (r * s) * (Q * q) =
      mul-le (product r s * u) (Q * q) (r * s) (Q * q) (down r s) (omega arith) in
      let exact : (r * Q) * (s * q) ≤ (u * P) * (u * p) =
      mul-le (r * Q) (s * q) (u * P) (u * p) first second in
      let all : (product r s * (Q * q)) * u ≤ (u * (P * p)) * u = omega (arith, rounded, exact) in
      le_of_mul-le-mul_right all some

  -- products rounded up keep upper bounds
  pub product-above : ((x y : ℕ) → x * y ≤ product x y * u) → (r s P p Q q : ℕ) →
      u * P ≤ r * Q → u * p ≤ s * q → u * (P * p) ≤ product r s * (Q * q)
  product-above up r s P p Q q first second =
      let rounded : (r * s) * (Q * q) ≤ (product r s * u) * (Q * q) =
      mul-le (r * s) (Q * q) (product r s * u) (Q * q) (up r s) (omega arith) in
      let exact : (u * P) * (u * p) ≤ (r * Q) * (s * q) =
      mul-le (u * P) (u * p) (r * Q) (s * q) first second in
      let all : (u * (P * p)) * u ≤ (product r s * (Q * q)) * u = omega (arith, rounded, exact) in
      le_of_mul-le-mul_right all some
