-- What two searches give: the bounds of an estimate.
use Rattle.std.proofs.Common.{◌≡◌, ℕ, ◌+◌, ◌-◌, ◌*◌, ◌^◌, ◌<◌, ◌≤◌, ◌∙◌, Option, None, Some, IfSome, sym, subst, arith}
use Rattle.bloom_parts.proofs.Common.{density_low, density_high, EstimatesItems, IsEstimate, IsNear, IsTight, least_of, most_of}
use Rattle.bloom_parts.specs.declared.math.estimate.Estimate.{Estimate}
use Rattle.bloom_parts.proofs.EstimateLemmas.{is-estimate, bounds-ordered, all-on, ends-of}
use Rattle.bloom_parts.proofs.NearLemmas.{is-near}

-- two numbers of items that were found: at the lower one the upper end of the density is at most
-- ones / b, at the upper one the lower end is at least that, and one item beside neither is so
pub record AreFound (b k ones low : ℕ) (high : Option ℕ) : Type 0 where
  pub low_fits : low < 2 ^ 64
  pub low_ends : density_high b (k * low) * b ≤ 2 ^ 63 * ones
  pub low_last : low + 1 < 2 ^ 64 → 2 ^ 63 * ones < density_high b (k * (low + 1)) * b
  pub fits : IfSome high (λ most. most < 2 ^ 64)
  pub ends : IfSome high (λ most. 2 ^ 63 * ones ≤ density_low b (k * most) * b)
  pub first : IfSome high (λ most. 0 < most → density_low b (k * (most - 1)) * b < 2 ^ 63 * ones)
  pub empty : ones ≡ 0 → high ≡ Some 0
  pub none : high ≡ None → density_low b (k * (2 ^ 64 - 1)) * b < 2 ^ 63 * ones

-- what is true of two numbers is true of the bounds that they are
at-bounds : (P : ℕ → Option ℕ → Type 0) (estimate : Estimate) (low : ℕ) (high : Option ℕ) →
    least_of estimate ≡ low → most_of estimate ≡ high → P low high →
    P (least_of estimate) (most_of estimate)
at-bounds P estimate low high low_is high_is fact =
    subst (λ l. P l (most_of estimate)) (sym low_is) (subst (λ h. P low h) (sym high_is) fact)

module _ (b k ones : ℕ) (bits : 1 < b) (some : 0 < k) (few : k < 2 ^ 32) (low : ℕ)
    (high : Option ℕ) (found : AreFound b k ones low high) where
  -- where no bit is set, both are 0
  both-none : ones ≡ 0 → (low ≡ 0) × (high ≡ Some 0)
  both-none empty =
      let least : low ≤ 0 =
      rw (found.empty empty) at
      (bounds-ordered b k ones bits some few low found.low_fits found.low_ends high found.fits
      found.ends) in
      (omega (arith, least), found.empty empty)

  -- they are as near as they can be told to be
  as-near : IsTight b k ones low high
  as-near = record { low_last = found.low_last; high_first = found.first; none = found.none }

  -- the estimate that has them as its bounds
  pub estimates-items : (estimate : Estimate) → least_of estimate ≡ low → most_of estimate ≡ high →
      EstimatesItems b k ones estimate
  estimates-items estimate low_is high_is = record {
    fits =
        at-bounds (IsEstimate b k ones) estimate low high low_is high_is
        (is-estimate b k ones bits some few low found.low_fits found.low_ends high found.fits
        found.ends);
    tight = at-bounds (IsTight b k ones) estimate low high low_is high_is as-near;
    near =
        at-bounds (IsNear b k) estimate low high low_is high_is
        (is-near b k ones low high bits some (ends-of b k ones bits some few) found.fits
        found.low_last found.first);
    none = λ empty. (low_is ∙ (both-none empty).0, high_is ∙ (both-none empty).1);
    all = λ all. high_is ∙ all-on b k ones bits some few high all found.fits found.ends;
  }
