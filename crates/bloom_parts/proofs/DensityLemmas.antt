-- How the expected density grows, and what its two ends tell of it.
use Rattle.std.proofs.Common.{◌≡◌, ℕ, ◌+◌, ◌-◌, ◌*◌, ◌^◌, ◌<◌, ◌≤◌, refl, ap, arith, inl, inr}
use Rattle.std.proofs.Math.Nat.{one-le-pow, pow-le-pow_left, pow-lt-pow_left, pow-zero}
use Rattle.bloom_parts.proofs.Common.{cases_lt, mul-le, pow-add, density_low, density_high, Bracket, DensityLaw}
use Rattle.bloom_parts.proofs.BracketLemmas.{density-ordered, is-density}

-- (x - y) is what is left of x
left-of : (x y : ℕ) → y ≤ x → x ≡ (x - y) + y
left-of x y less = omega (arith, less)

-- what is set of a whole, where a share stays clear, grows with a second share that stays clear
grows : (whole off more less : ℕ) → off ≤ whole → less < more → 0 < off → 0 < whole →
    (whole - off) * (whole * more) < (whole * more - off * less) * whole
grows whole off more less fits fewer some all =
    let within : off * less ≤ whole * more =
    mul-le off less whole more fits (omega (arith, fewer)) in
    let first : whole * (whole * more) ≡ ((whole - off) + off) * (whole * more) =
    ap (λ v. v * (whole * more)) (left-of whole off fits) in
    let second : whole * more * whole ≡ ((whole * more - off * less) + off * less) * whole =
    ap (λ v. v * whole) (left-of (whole * more) (off * less) within) in
    let step : (off * whole) * (less + 1) ≤ (off * whole) * more =
    mul-le (off * whole) (less + 1) (off * whole) more (omega arith) (omega (arith, fewer)) in
    let positive : 1 * 1 ≤ off * whole = mul-le 1 1 off whole some all in
    omega (arith, first, second, step, positive)

-- the expected density only grows
pub density_law : DensityLaw
density_law b t u some less =
    let n : ℕ = u - t in
    let sum : u ≡ t + n = omega (arith, less) in
    let fits : (b - 1) ^ t ≤ b ^ t = pow-le-pow_left (omega arith) t in
    let off : 1 ≤ (b - 1) ^ t = one-le-pow t (b - 1) (omega (arith, some)) in
    let all : 1 ≤ b ^ t = one-le-pow t b (omega (arith, some)) in
    let fewer : (b - 1) ^ n < b ^ n =
    pow-lt-pow_left (omega (arith, some)) (λ is. absurd (omega (arith, is, less))) in
    rw (sum, pow-add b t n, pow-add (b - 1) t n)
    (grows (b ^ t) ((b - 1) ^ t) (b ^ n) ((b - 1) ^ n) fits fewer off all)

-- the ends of the density: bounds of it, less than 2 t units apart, and 0 after no step
pub record IsEnds (b t : ℕ) : Type 0 where
  pub below : density_low b t * b ^ t ≤ 2 ^ 63 * (b ^ t - (b - 1) ^ t)
  pub above : 2 ^ 63 * (b ^ t - (b - 1) ^ t) ≤ density_high b t * b ^ t
  pub ordered : density_low b t ≤ density_high b t
  pub fits : density_high b t ≤ 2 ^ 63
  pub near : density_high b t ≤ density_low b t + 2 * t

-- the bracket of a density has its ends
pub density-ends : (b t : ℕ) → 0 < b → t < 2 ^ 128 → IsEnds b t
density-ends b t some fits =
    let ordered = density-ordered b t some fits in
    let bracket : Bracket = record {
      low = density_low b t;
      high = density_high b t;
      ordered = ordered;
      in_range = omega arith;
    } in
    let is = is-density b t some fits bracket refl refl in
    record {
      below = is.holds.at_least;
      above = is.holds.at_most;
      ordered = ordered;
      fits = omega arith;
      near = elim (cases_lt 0 t) [
        | inl above ↦ omega (arith, is.width above, ordered)
        | inr none ↦ omega (arith, is.width_none (omega (arith, none)), ordered)
      ];
    }

-- no bit is expected to be set after no step
pub density-none : (b t : ℕ) → 0 < b → t ≡ 0 → (density_low b t ≡ 0) × (density_high b t ≡ 0)
density-none b t some none =
    let is = density-ends b t some (omega (arith, none)) in
    let nothing : b ^ t - (b - 1) ^ t ≡ 0 = rw (none, pow-zero b, pow-zero (b - 1)) refl in
    let whole : b ^ t ≡ 1 = rw (none, pow-zero b) refl in
    let low : density_low b t * 1 ≤ 2 ^ 63 * 0 = rw (nothing, whole) at is.below in
    (omega (arith, low), omega (arith, low, is.near, none))
