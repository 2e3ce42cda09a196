-- Brackets of the density and of its powers.
use Rattle.std.proofs.Common.{◌≡◌, ℕ, zero, suc, ◌+◌, ◌-◌, ◌*◌, ◌/◌, ◌^◌, ◌<◌, ◌≤◌, refl, ap, arith}
use Rattle.bloom_parts.proofs.Common.{div_ceil, pow-le-pow_left, div-mul-le_self, div_ceil_times, Bracket, lower_power_of, upper_power_of, low_of, high_of, width_of, Holds, HoldsDensity, density_low, density_high}
use Rattle.std.proofs.lemmas.Nat.{mul-le, div_below}
use Rattle.bloom_parts.proofs.EndLemmas.{lower-holds, upper-holds, ends-apart, ends-ordered, upper-none}
use Rattle.bloom_parts.proofs.RoundingLemmas.{div_ceil-le}
use Rattle.bloom_parts.proofs.PowerWidths.{AreApart}

-- the ends of the share of bits that stays clear when one of b is set
pub record AreClearEnds (b low high : ℕ) : Type 0 where
  pub below : low * b ≤ 2 ^ 63 * (b - 1)
  pub above : 2 ^ 63 * (b - 1) ≤ high * b
  pub low_fits : low ≤ 2 ^ 63
  pub high_fits : high ≤ 2 ^ 63
  pub ordered : low ≤ high
  pub near : high ≤ low + 1

-- the share that stays clear, rounded either way, has these ends
kept-ends : (b : ℕ) → 0 < b → AreClearEnds b (2 ^ 63 * (b - 1) / b) (div_ceil (2 ^ 63 * (b - 1)) b)
kept-ends b some =
    let x : ℕ = 2 ^ 63 * (b - 1) in record {
      below = div-mul-le_self x b;
      above = (div_ceil_times x b some).0;
      low_fits = omega (arith, div_below x b (2 ^ 63) some (omega arith));
      high_fits = div_ceil-le x b (2 ^ 63) some (omega arith);
      ordered = omega arith;
      near = omega arith;
    }

-- what is missing from a whole that is held from the other side
missing-below : (u high whole part : ℕ) → high ≤ u → part ≤ whole → u * part ≤ high * whole →
    (u - high) * whole ≤ u * (whole - part)
missing-below u high whole part fits small above =
    let one : u * whole ≡ ((u - high) + high) * whole = ap (λ v. v * whole) (omega (arith, fits)) in
    let two : u * whole ≡ u * ((whole - part) + part) = ap (λ v. u * v) (omega (arith, small)) in
    omega (arith, one, two, above)

-- what is missing from a whole that is held from below
missing-above : (u low whole part : ℕ) → low ≤ u → part ≤ whole → low * whole ≤ u * part →
    u * (whole - part) ≤ (u - low) * whole
missing-above u low whole part fits small below =
    let one : u * whole ≡ ((u - low) + low) * whole = ap (λ v. v * whole) (omega (arith, fits)) in
    let two : u * whole ≡ u * ((whole - part) + part) = ap (λ v. u * v) (omega (arith, small)) in
    omega (arith, one, two, below)

-- the number of hashes times the number of items fits in 128 bits
pub sets-fit : (hashes items : ℕ) → hashes < 2 ^ 32 → items < 2 ^ 64 → hashes * items < 2 ^ 128
sets-fit hashes items hashes_fit items_fit =
    let few : hashes ≤ 2 ^ 32 = omega (arith, hashes_fit) in
    let many : items ≤ 2 ^ 64 = omega (arith, items_fit) in
    omega (arith, mul-le hashes items (2 ^ 32) (2 ^ 64) few many)

-- what the bracket of a density promises
abbrev pub IsDensity : Bracket → ℕ → ℕ → Type 0
IsDensity bracket b t = record {
  holds : HoldsDensity bracket b t;
  low : low_of bracket ≡ density_low b t;
  high : high_of bracket ≡ density_high b t;
  width : 0 < t → width_of bracket ≤ 2 * t - 1;
  width_none : t ≡ 0 → width_of bracket ≡ 0;
}

module _ (b t : ℕ) (some : 0 < b) (fits : t < 2 ^ 128) where
  -- the ends of the density are ordered, since those of what stays clear are
  pub density-ordered : density_low b t ≤ density_high b t
  density-ordered =
      let ordered = ends-ordered _ _ t fits (kept-ends b some).ordered in
      omega (arith, ordered)

  -- the bracket of its two ends is the density's
  pub is-density : (bracket : Bracket) → bracket.low ≡ density_low b t →
      bracket.high ≡ density_high b t → IsDensity bracket b t
  is-density bracket low_is high_is =
      let kept = kept-ends b some in
      let off_low : ℕ = 2 ^ 63 * (b - 1) / b in
      let off_high : ℕ = div_ceil (2 ^ 63 * (b - 1)) b in
      let apart = ends-apart off_low off_high 1 t fits kept.low_fits kept.high_fits kept.near in
      let less : (b - 1) ^ t ≤ b ^ t = pow-le-pow_left (omega arith) t in
      record {
        holds = record {
          at_least =
              rw low_is (missing-below (2 ^ 63) (upper_power_of off_high t) (b ^ t) ((b - 1) ^ t)
              apart.high_fits less (upper-holds off_high t (b - 1) b fits kept.above));
          at_most =
              rw high_is (missing-above (2 ^ 63) (lower_power_of off_low t) (b ^ t) ((b - 1) ^ t)
              apart.low_fits less (lower-holds off_low t (b - 1) b fits kept.below));
        };
        low = low_is;
        high = high_is;
        width = λ above.
            omega (arith, low_is, high_is, apart.some above, apart.low_fits, apart.high_fits);
        width_none = λ none.
            omega (arith, low_is, high_is, (apart.none none).0, (apart.none none).1);
      }

-- what the bracket of a power promises of the one of its base
abbrev pub IsPower : Bracket → Bracket → ℕ → Type 0
IsPower base bracket k = record {
  holds : (p q : ℕ) → 0 < q → Holds base p q → Holds bracket (p ^ k) (q ^ k);
  low : low_of bracket ≡ lower_power_of (low_of base) k;
  high : high_of bracket ≡ upper_power_of (high_of base) k;
  width : width_of bracket ≤ k * (width_of base + 1);
  width_none : 0 < k → high_of base ≡ 0 → width_of bracket ≡ 0;
}

module _ (base : Bracket) (k : ℕ) (fits : k < 2 ^ 128) where
  -- the lower power of the lower bound is at most the upper power of the upper one
  pub power-ordered : (low high : ℕ) → low ≡ lower_power_of base.low k →
      high ≡ upper_power_of base.high k → low ≤ high
  power-ordered low high low_is high_is =
      rw (low_is, high_is) (ends-ordered base.low base.high k fits base.ordered)

  -- the bracket of both powers is the power's
  pub is-power : (bracket : Bracket) → bracket.low ≡ lower_power_of base.low k →
      bracket.high ≡ upper_power_of base.high k → IsPower base bracket k
  is-power bracket low_is high_is =
      let low_fits : base.low ≤ 2 ^ 63 = omega (arith, base.ordered, base.in_range) in
      let near : base.high ≤ base.low + (base.high - base.low) = omega (arith, base.ordered) in
      let apart =
      ends-apart base.low base.high (base.high - base.low) k fits low_fits base.in_range near in
      record {
        holds = λ p q _ is. record {
          at_least = rw low_is (lower-holds base.low k p q fits is.at_least);
          at_most = rw high_is (upper-holds base.high k p q fits is.at_most);
        };
        low = low_is;
        high = high_is;
        width = omega (arith, low_is, high_is, within k apart);
        width_none = λ some none.
            let nothing : upper_power_of base.high k ≡ 0 = rw none (upper-none k fits some) in
            omega (arith, high_is, nothing, power-ordered _ _ low_is high_is);
      }
    where
      within : (e : ℕ) {low high d : ℕ} → AreApart (2 ^ 63) d low high e → high ≤ low + e * (d + 1)
      within zero are = omega (arith, are.none refl)
      within (suc e) are = omega (arith, are.some (omega arith))
