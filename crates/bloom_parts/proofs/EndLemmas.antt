-- The two powers that the ends of a bracket are made of, in units of 2^-63.
use Rattle.std.proofs.Common.{◌≡◌, ◌⊎◌, ℕ, zero, suc, ◌+◌, ◌*◌, ◌^◌, ◌<◌, ◌≤◌, refl, ◌∙◌, arith, inl, inr, lit<, lit≤}
use Rattle.bloom_parts.proofs.Common.{le_of_mul-le-mul_right, le_trans, one-le-pow, pow-suc, mul-le, down_of, up_of, lower_power_of, upper_power_of}
use Rattle.bloom_parts.proofs.PowerBounds.{power-bound, product-below, product-above}
use Rattle.bloom_parts.proofs.PowerWidths.{Rounds, AreApart, power-apart}

-- the product of two fractions is at most one whole times one whole
products-fit : (x y : ℕ) → x ≤ 2 ^ 63 → y ≤ 2 ^ 63 → x * y ≤ 2 ^ 63 * 2 ^ 63
products-fit x y x_fits y_fits = mul-le x y (2 ^ 63) (2 ^ 63) x_fits y_fits

-- a product rounded down is less than one unit below
rounds-down : Rounds (2 ^ 63) down_of
rounds-down = record {
  near_below = λ x y. omega arith;
  near_above = λ x y. omega arith;
  fits = λ x y x_fits y_fits. omega (arith, products-fit x y x_fits y_fits);
}

-- a product rounded up is less than one unit above
rounds-up : Rounds (2 ^ 63) up_of
rounds-up = record {
  near_below = λ x y. omega arith;
  near_above = λ x y. omega arith;
  fits = λ x y x_fits y_fits. omega (arith, products-fit x y x_fits y_fits);
}

-- a power rounded down is a lower bound of the power of each fraction that its base is one of
pub lower-holds : (base e p q : ℕ) → e < 2 ^ 128 → base * q ≤ 2 ^ 63 * p →
    lower_power_of base e * q ^ e ≤ 2 ^ 63 * p ^ e
lower-holds base e p q fits bound =
    power-bound (λ r P Q. r * Q ≤ 2 ^ 63 * P) (2 ^ 63) down_of (lit≤ tt)
    (product-below (2 ^ 63) (lit< tt) down_of (λ x y. omega arith)) base p q bound 128 e fits

-- a power rounded up is an upper bound of the power of each fraction that its base is one of
pub upper-holds : (base e p q : ℕ) → e < 2 ^ 128 → 2 ^ 63 * p ≤ base * q →
    2 ^ 63 * p ^ e ≤ upper_power_of base e * q ^ e
upper-holds base e p q fits bound =
    power-bound (λ r P Q. 2 ^ 63 * P ≤ r * Q) (2 ^ 63) up_of (lit≤ tt)
    (product-above (2 ^ 63) (lit< tt) up_of (λ x y. omega arith)) base p q bound 128 e fits

-- the powers of bases that are d apart
pub ends-apart : (a b d e : ℕ) → e < 2 ^ 128 → a ≤ 2 ^ 63 → b ≤ 2 ^ 63 → b ≤ a + d →
    AreApart (2 ^ 63) d (lower_power_of a e) (upper_power_of b e) e
ends-apart a b d e fits a_fits b_fits apart =
    power-apart (2 ^ 63) (lit< tt) down_of up_of rounds-down rounds-up a b d a_fits b_fits apart
    128 e fits

-- the power rounded down is at most the one rounded up
pub ends-ordered : (a b e : ℕ) → e < 2 ^ 128 → a ≤ b → lower_power_of a e ≤ upper_power_of b e
ends-ordered a b e fits ordered =
    let low : lower_power_of a e * (2 ^ 63) ^ e ≤ 2 ^ 63 * a ^ e =
    lower-holds a e a (2 ^ 63) fits (omega arith) in
    let high : 2 ^ 63 * a ^ e ≤ upper_power_of b e * (2 ^ 63) ^ e =
    upper-holds b e a (2 ^ 63) fits (omega (arith, ordered)) in
    let some : 1 ≤ (2 ^ 63) ^ e = one-le-pow e (2 ^ 63) (lit< tt) in
    le_of_mul-le-mul_right (le_trans low high) some

-- one factor of nothing is nothing
none-factor : (a b : ℕ) → a * b ≡ 0 → (a ≡ 0) ⊎ (b ≡ 0)
none-factor zero b is = inl refl
none-factor (suc a) b is = inr (omega (arith, is))

-- a power of nothing is nothing
pub upper-none : (e : ℕ) → e < 2 ^ 128 → 0 < e → upper_power_of 0 e ≡ 0
upper-none e fits some =
    power-bound (λ r P Q. P ≡ 0 → r ≡ 0) (2 ^ 63) up_of (λ is. absurd (omega (arith, is)))
    times 0 0 1 (λ _. refl) 128 e fits (none-power e some)
  where
    -- a product with nothing is nothing
    times : (r s P p Q q : ℕ) → (P ≡ 0 → r ≡ 0) → (p ≡ 0 → s ≡ 0) → P * p ≡ 0 → up_of r s ≡ 0
    times r s P p Q q first second is = elim (none-factor P p is) [
      | inl left ↦ rw (first left) (omega arith)
      | inr right ↦ rw (second right) (omega arith)
    ]

    -- a power of nothing, as a number
    none-power : (n : ℕ) → 0 < n → 0 ^ n ≡ 0
    none-power zero above = absurd (omega arith)
    none-power (suc n) above = pow-suc 0 n ∙ omega arith
