-- How far two rounded powers are apart, one of which is rounded down and the other up.
use Rattle.std.proofs.Common.{add-zero, add-one, ◌≡◌, ℕ, zero, suc, ◌+◌, ◌-◌, ◌*◌, ◌/◌, ◌%◌, ◌^◌, ◌<◌, ◌≤◌, refl, arith, subst, sym}
use Rattle.bloom_parts.proofs.Common.{lt_of_mul-lt-mul_right, mul-le, next_power, rounded_power}
use Rattle.bloom_parts.proofs.PowerDigits.{half-below}
use Rattle.bloom_parts.proofs.PowerBounds.{by-half}

-- what a rounding does to one product, in parts of a whole
pub record Rounds (u : ℕ) (product : ℕ → ℕ → ℕ) : Type 0 where
  pub near_below : (x y : ℕ) → x * y < product x y * u + u
  pub near_above : (x y : ℕ) → product x y * u < x * y + u
  pub fits : (x y : ℕ) → x ≤ u → y ≤ u → product x y ≤ u

-- one whole times a number is the number
times-whole : (u : ℕ) (product : ℕ → ℕ → ℕ) → 0 < u → Rounds u product → (x : ℕ) → product u x ≡ x
times-whole u product some rounds x =
    let low : x * u < (product u x + 1) * u = omega (arith, rounds.near_below u x) in
    let high : product u x * u < (x + 1) * u = omega (arith, rounds.near_above u x) in
    omega (arith, lt_of_mul-lt-mul_right u low, lt_of_mul-lt-mul_right u high)

-- products of factors that are w and d apart are at most w + d + 1 apart
product-apart : (u high low b a up down w d : ℕ) → high ≤ u → a ≤ u →
    up * u < high * b + u → low * a < down * u + u → high ≤ low + w → b ≤ a + d →
    up ≤ down + (w + d + 1)
product-apart u high low b a up down w d high_fits a_fits above below first second =
    let one : high * b ≤ high * (a + d) = mul-le high b high (a + d) (omega arith) second in
    let two : high * a ≤ (low + w) * a = mul-le high a (low + w) a first (omega arith) in
    let three : w * a ≤ w * u = mul-le w a w u (omega arith) a_fits in
    let four : high * d ≤ u * d = mul-le high d u d high_fits (omega arith) in
    let all : up * u < (down + (w + d + 2)) * u =
    omega (arith, above, below, one, two, three, four) in
    omega (arith, lt_of_mul-lt-mul_right u all)

-- the powers to e of numbers that are d apart: one whole at 0, and else less than e * (d + 1) apart
pub record AreApart (u d low high e : ℕ) : Type 0 where
  pub low_fits : low ≤ u
  pub high_fits : high ≤ u
  pub none : e ≡ 0 → (low ≡ u) × (high ≡ u)
  pub some : 0 < e → high + 1 ≤ low + e * (d + 1)

module _ (u : ℕ) (above : 0 < u) (lower upper : ℕ → ℕ → ℕ) (down : Rounds u lower)
    (up : Rounds u upper) (a b d : ℕ) (a_fits : a ≤ u) (b_fits : b ≤ u) (apart : b ≤ a + d) where
  -- how far squares are apart
  square-apart : (low high h : ℕ) → AreApart u d low high h →
      AreApart u d (lower low low) (upper high high) (h + h)
  square-apart low high h are = record {
    low_fits = down.fits low low are.low_fits are.low_fits;
    high_fits = up.fits high high are.high_fits are.high_fits;
    none = λ e.
        let both : (low ≡ u) × (high ≡ u) = are.none (omega (arith, e)) in
        let low_stays : lower low low ≡ u = rw (both.0) (times-whole u lower above down u) in
        let high_stays : upper high high ≡ u = rw (both.1) (times-whole u upper above up u) in
        (low_stays, high_stays);
    some = λ e.
        let before : high + 1 ≤ low + h * (d + 1) = are.some (omega (arith, e)) in
        let least : 1 ≤ h * (d + 1) = mul-le 1 1 h (d + 1) (omega (arith, e)) (omega arith) in
        let w : ℕ = h * (d + 1) - 1 in
        let near : high ≤ low + w = omega (arith, before, least) in
        let after : upper high high ≤ lower low low + (w + w + 1) =
        product-apart u high low high low (upper high high) (lower low low) w w
        are.high_fits are.low_fits (up.near_above high high) (down.near_below low low) near near in
        omega (arith, after, least);
  }

  -- how far products with the bases are apart
  times-apart : (low high h : ℕ) → AreApart u d low high h →
      AreApart u d (lower low a) (upper high b) (suc h)
  times-apart low high zero are =
      let both : (low ≡ u) × (high ≡ u) = are.none refl in
      let is_a : lower low a ≡ a = rw (both.0) (times-whole u lower above down a) in
      let is_b : upper high b ≡ b = rw (both.1) (times-whole u upper above up b) in
      record {
        low_fits = omega (arith, is_a, a_fits);
        high_fits = omega (arith, is_b, b_fits);
        none = λ e. absurd (omega (arith, e));
        some = λ _. omega (arith, is_a, is_b, apart);
      }
  times-apart low high (suc h) are = record {
    low_fits = down.fits low a are.low_fits a_fits;
    high_fits = up.fits high b are.high_fits b_fits;
    none = λ e. absurd (omega (arith, e));
    some = λ _.
        let before : high + 1 ≤ low + suc h * (d + 1) = are.some (omega arith) in
        let w : ℕ = suc h * (d + 1) - 1 in
        let near : high ≤ low + w = omega (arith, before) in
        let after : upper high b ≤ lower low a + (w + d + 1) =
        product-apart u high low b a (upper high b) (lower low a) w d are.high_fits a_fits
        (up.near_above high b) (down.near_below low a) near apart in
        omega (arith, after);
  }

  -- how far the powers are apart after one more digit
  next-apart : (low high h digit : ℕ) → digit < 2 → AreApart u d low high h →
      AreApart u d (next_power lower a low digit) (next_power upper b high digit) (h + h + digit)
  next-apart low high h zero small are = rw add-zero (square-apart low high h are)
  next-apart low high h (suc zero) small are =
      let square = square-apart low high h are in
      rw add-one (times-apart (lower low low) (upper high high) (h + h) square)
  next-apart low high h (suc (suc digit)) small are = absurd (omega arith)

  -- how far the powers to any exponent are apart
  pub power-apart : (digits e : ℕ) → e < 2 ^ digits →
      AreApart u d (rounded_power u lower a digits e) (rounded_power u upper b digits e) e
  unfolding rounded_power
  power-apart zero e below = record {
    low_fits = omega arith;
    high_fits = omega arith;
    none = λ _. (refl, refl);
    some = λ e. absurd (omega arith);
  }
  power-apart (suc digits) e below =
      let low = rounded_power u lower a digits (e / 2) in
      let high = rounded_power u upper b digits (e / 2) in
      let are = power-apart digits (e / 2) (half-below digits e below) in
      subst
      (λ (x : ℕ). AreApart u d (next_power lower a low (e % 2)) (next_power upper b high (e % 2)) x)
      (sym (by-half e))
      (next-apart low high (e / 2) (e % 2) (omega arith) are)
