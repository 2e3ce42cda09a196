-- What the two ends of the expected density tell of a number of items.
use Rattle.std.proofs.Common.{◌≡◌, ℕ, ◌+◌, ◌-◌, ◌*◌, ◌^◌, ◌<◌, ◌≤◌, Option, None, Some, IfSome, refl, arith, inl, inr, lit<}
use Rattle.bloom_parts.proofs.Common.{le_of_mul-le-mul_right, lt_of_mul-lt-mul_right, one-le-pow, pow-le-pow_left, cases_lt, mul-le, density_low, density_high}
use Rattle.bloom_parts.specs.Estimates.{IsAtMost, IsAtLeast, IsBelow, IsAbove, IsEstimate}
use Rattle.bloom_parts.proofs.BracketLemmas.{sets-fit}
use Rattle.bloom_parts.proofs.DensityLemmas.{IsEnds, density-ends, density_law}

-- an upper end at most ones / b, of a share that is set
at_most-from : (u b ones high all on : ℕ) → 0 < u → high * b ≤ u * ones → u * on ≤ high * all →
    b * on ≤ ones * all
at_most-from u b ones high all on some reaches above =
    let one : (u * on) * b ≤ (high * all) * b =
    mul-le (u * on) b (high * all) b above (omega arith) in
    let two : (high * b) * all ≤ (u * ones) * all =
    mul-le (high * b) all (u * ones) all reaches (omega arith) in
    let three : (b * on) * u ≤ (ones * all) * u = omega (arith, one, two) in
    le_of_mul-le-mul_right three some

-- a lower end at least ones / b
at_least-from : (u b ones low all on : ℕ) → 0 < u → u * ones ≤ low * b → low * all ≤ u * on →
    ones * all ≤ b * on
at_least-from u b ones low all on some reaches below =
    let one : (low * all) * b ≤ (u * on) * b =
    mul-le (low * all) b (u * on) b below (omega arith) in
    let two : (u * ones) * all ≤ (low * b) * all =
    mul-le (u * ones) all (low * b) all reaches (omega arith) in
    let three : (ones * all) * u ≤ (b * on) * u = omega (arith, one, two) in
    le_of_mul-le-mul_right three some

-- less is set of another whole, where at most ones / b is set of the first
below-from : (b ones all on other less : ℕ) → 0 < b → b * on ≤ ones * all →
    less * all < on * other → b * less < ones * other
below-from b ones all on other less some at_most fewer =
    let one : (b * on) * other ≤ (ones * all) * other =
    mul-le (b * on) other (ones * all) other at_most (omega arith) in
    let two : b * (less * all + 1) ≤ b * (on * other) =
    mul-le b (less * all + 1) b (on * other) (omega arith) (omega (arith, fewer)) in
    lt_of_mul-lt-mul_right all (omega (arith, one, two, some))

-- more is set of another whole, where at least ones / b is set of the first
above-from : (b ones all on other more : ℕ) → 0 < b → ones * all ≤ b * on →
    on * other < more * all → ones * other < b * more
above-from b ones all on other more some at_least fewer =
    let one : (ones * all) * other ≤ (b * on) * other =
    mul-le (ones * all) other (b * on) other at_least (omega arith) in
    let two : b * (on * other + 1) ≤ b * (more * all) =
    mul-le b (on * other + 1) b (more * all) (omega arith) (omega (arith, fewer)) in
    lt_of_mul-lt-mul_right all (omega (arith, one, two, some))

module _ (b k ones : ℕ) (bits : 1 < b) (some : 0 < k) (few : k < 2 ^ 32) where
  -- more items set more positions
  more-sets : (items more : ℕ) → items < more → k * items < k * more
  more-sets items more less =
      let step : k * (items + 1) ≤ k * more =
      mul-le k (items + 1) k more (omega arith) (omega (arith, less)) in
      omega (arith, step, some)

  -- of fewer items than a number at which at most ones / b is expected to be set, less is
  below-at : (low : ℕ) → IsAtMost b (k * low) ones → (items : ℕ) → items < low →
      IsBelow b (k * items) ones
  below-at low at_most items less =
      below-from b ones _ _ _ _ (omega (arith, bits)) at_most
      (density_law b (k * items) (k * low) bits (more-sets items low less))

  -- of more items than a number at which at least ones / b is expected to be set, more is
  above-at : (most : ℕ) → IsAtLeast b (k * most) ones → (items : ℕ) → most < items →
      IsAbove b (k * items) ones
  above-at most at_least items more =
      above-from b ones _ _ _ _ (omega (arith, bits)) at_least
      (density_law b (k * most) (k * items) bits (more-sets most items more))

  -- the ends of the density after some items
  pub ends-of : (items : ℕ) → items < 2 ^ 64 → IsEnds b (k * items)
  ends-of items fits = density-ends b (k * items) (omega (arith, bits)) (sets-fit k items few fits)

  -- where the upper end is at most ones / b, the density is
  pub at_most-end : (low : ℕ) → low < 2 ^ 64 → density_high b (k * low) * b ≤ 2 ^ 63 * ones →
      IsAtMost b (k * low) ones
  at_most-end low fits reaches =
      at_most-from (2 ^ 63) b ones _ _ _ (lit< tt) reaches (ends-of low fits).above

  -- where the lower end is at least ones / b, the density is
  pub at_least-end : (most : ℕ) → most < 2 ^ 64 → 2 ^ 63 * ones ≤ density_low b (k * most) * b →
      IsAtLeast b (k * most) ones
  at_least-end most fits reaches =
      at_least-from (2 ^ 63) b ones _ _ _ (lit< tt) reaches (ends-of most fits).below

  module _ (low : ℕ) (low_fits : low < 2 ^ 64)
      (low_ends : density_high b (k * low) * b ≤ 2 ^ 63 * ones) where
    -- the bounds that the ends give
    pub is-estimate : (high : Option ℕ) → IfSome high (λ most. most < 2 ^ 64) →
        IfSome high (λ most. 2 ^ 63 * ones ≤ density_low b (k * most) * b) →
        IsEstimate b k ones low high
    is-estimate None fits ends = record {
      at_most = at_most-end low low_fits low_ends;
      at_least = tt;
      below = below-at low (at_most-end low low_fits low_ends);
      above = tt;
    }
    is-estimate (Some most) fits ends = record {
      at_most = at_most-end low low_fits low_ends;
      at_least = at_least-end most fits ends;
      below = below-at low (at_most-end low low_fits low_ends);
      above = above-at most (at_least-end most fits ends);
    }

    -- the lower bound is at most the upper one
    pub bounds-ordered : (high : Option ℕ) → IfSome high (λ most. most < 2 ^ 64) →
        IfSome high (λ most. 2 ^ 63 * ones ≤ density_low b (k * most) * b) →
        IfSome high (λ most. low ≤ most)
    bounds-ordered None fits ends = tt
    bounds-ordered (Some most) fits ends = elim (cases_lt most low) [
      | inl less ↦
          let below = below-at low (at_most-end low low_fits low_ends) most less in
          absurd (omega (arith, below, at_least-end most fits ends))
      | inr more ↦ more
    ]

  -- where all bits are set, no number of items is too many: some bit is expected to be clear
  pub all-on : (high : Option ℕ) → ones ≡ b → IfSome high (λ most. most < 2 ^ 64) →
      IfSome high (λ most. 2 ^ 63 * ones ≤ density_low b (k * most) * b) → high ≡ None
  all-on None all fits ends = refl
  all-on (Some most) all fits ends =
      let t : ℕ = k * most in
      let at_least : b * b ^ t ≤ b * (b ^ t - (b - 1) ^ t) =
      rw all at (at_least-end most fits ends) in
      let off : 1 ≤ (b - 1) ^ t = one-le-pow t (b - 1) (omega (arith, bits)) in
      let within : (b - 1) ^ t ≤ b ^ t = pow-le-pow_left (omega arith) t in
      let less : b * (b ^ t - (b - 1) ^ t + 1) ≤ b * b ^ t =
      mul-le b (b ^ t - (b - 1) ^ t + 1) b (b ^ t) (omega arith) (omega (arith, off, within)) in
      absurd (omega (arith, at_least, less, bits))
