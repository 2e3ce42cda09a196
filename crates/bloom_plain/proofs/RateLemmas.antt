-- The rate of a filter, from what its density and its power promise.
use Rattle.std.proofs.Common.{◌≡◌, ℕ, zero, suc, ◌+◌, ◌-◌, ◌*◌, ◌^◌, ◌<◌, ◌≤◌, arith, refl, ap, sym, ◌∙◌}
use Rattle.std.proofs.lemmas.Nat.{mul-le, pow-add}
use Rattle.std.proofs.Math.Nat.{mul-zero, one-le-pow, pow-suc, pow-zero}
use Rattle.bloom_parts.specs.declared.math.bracket.Bracket.{Bracket}
use Rattle.bloom_parts.specs.Brackets.{width_of, Holds, HoldsDensity, HoldsRate}

-- a power of a power is the power of the product
pow-pow : (a m n : ℕ) → (a ^ m) ^ n ≡ a ^ (m * n)
pow-pow a m zero = rw (mul-zero, pow-zero a, pow-zero (a ^ m)) refl
pow-pow a m (suc n) =
    let next : m * n + m ≡ m * suc n = omega arith in
    pow-suc (a ^ m) n ∙ ap (λ v. v * a ^ m) (pow-pow a m n) ∙ sym (pow-add a (m * n) m)
    ∙ ap (λ v. a ^ v) next

-- a power of a bracket that holds the density holds the rate
pub rate-holds : (density rate : Bracket) (b t k : ℕ) → 0 < b → HoldsDensity density b t →
    ((p q : ℕ) → 0 < q → Holds density p q → Holds rate (p ^ k) (q ^ k)) → HoldsRate rate b t k
rate-holds density rate b t k some is power =
    let held = power (b ^ t - (b - 1) ^ t) (b ^ t) (one-le-pow t b some) is in record {
      at_least = rw (← pow-pow b t k) held.at_least;
      at_most = rw (← pow-pow b t k) held.at_most;
    }

-- the density is zero where nothing is set
none-on : (density : Bracket) (b : ℕ) → HoldsDensity density b 0 → density.low ≡ 0
none-on density b is =
    let none : density.low * b ^ 0 ≤ 2 ^ 63 * (b ^ 0 - (b - 1) ^ 0) = is.at_least in
    omega (arith, rw (pow-zero b, pow-zero (b - 1)) at none)

-- the width of the rate follows from that of the density
pub rate-width : (density rate : Bracket) (b t k : ℕ) → HoldsDensity density b t →
    (0 < t → width_of density ≤ 2 * t - 1) → (t ≡ 0 → width_of density ≡ 0) →
    width_of rate ≤ k * (width_of density + 1) →
    (0 < k → density.high ≡ 0 → width_of rate ≡ 0) →
    width_of rate ≤ 2 * t * k
rate-width density rate b t zero is some none width width_none = omega (arith, width)
rate-width density rate b zero (suc k) is some none width width_none =
    let off : density.high ≡ 0 = omega (arith, none refl, none-on density b is) in
    omega (arith, width_none (omega arith) off)
rate-width density rate b (suc t) (suc k) is some none width width_none =
    let near : width_of density ≤ 2 * suc t - 1 = some (omega arith) in
    let most : suc k * (width_of density + 1) ≤ suc k * (2 * suc t) =
    mul-le (suc k) (width_of density + 1) (suc k) (2 * suc t)
    (omega arith) (omega (arith, near)) in
    omega (arith, width, most)
