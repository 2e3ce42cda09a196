-- Equality of rates is lawful: it is an equivalence.
use Rattle.std.proofs.Common.{◌≡◌, ℕ, ◌*◌, ◌<◌, ◌≤◌, eqb, sym, ap, arith}
use Rattle.std.specs.Cmp.{IsEquivalence}
use Rattle.std.proofs.lemmas.Bool.Decides.{nat_tests}
use Rattle.std.proofs.Math.Nat.{le_of_mul-le-mul_right}
use Rattle.bloom_parts.specs.Rates.{same_rate}

-- two tests agree where each equation gives the other
tests-agree : (a b c d : ℕ) → (a ≡ b → c ≡ d) → (c ≡ d → a ≡ b) → eqb a b ≡ eqb c d
tests-agree a b c d to from = grind (arith, nat_tests)

-- a / b and c / d are equal, and a / b and e / f, so c / d and e / f are
cross-trans : (a b c d e f : ℕ) → 0 < b → a * d ≡ c * b → a * f ≡ e * b → c * f ≡ e * d
cross-trans a b c d e f above first second =
    let same : (c * f) * b ≡ (e * d) * b =
    omega (arith, ap (λ v. v * f) first, ap (λ v. v * d) second) in
    let below : (c * f) * b ≤ (e * d) * b = omega (arith, same) in
    let over : (e * d) * b ≤ (c * f) * b = omega (arith, same) in
    omega (arith, le_of_mul-le-mul_right below above, le_of_mul-le-mul_right over above)

pub same_rate-laws : IsEquivalence same_rate
same_rate-laws = record {
  refl = λ x. grind (arith, nat_tests);
  symm = λ x y.
      tests-agree (x.num * y.den) (y.num * x.den) (y.num * x.den) (x.num * y.den)
      (λ same. sym same) (λ same. sym same);
  congr = λ x y z is.
      let same : x.num * y.den ≡ y.num * x.den = grind (arith, nat_tests, is) in
      tests-agree (x.num * z.den) (z.num * x.den) (y.num * z.den) (z.num * y.den)
      (cross-trans x.num x.den y.num y.den z.num z.den x.den_above same)
      (cross-trans y.num y.den x.num x.den z.num z.den y.den_above (sym same));
}
