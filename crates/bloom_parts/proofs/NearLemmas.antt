-- How far the two bounds of a number of items are apart: the expected density rises by some share
-- of a bit an item, and its ends are close.
use Rattle.std.proofs.Common.{◌≡◌, ℕ, zero, suc, ◌+◌, ◌-◌, ◌*◌, ◌^◌, ◌<◌, ◌≤◌, Option, None, Some, IfSome, ◌∙◌, ap, arith, inl, inr}
use Rattle.bloom_parts.proofs.Common.{le_of_mul-le-mul_right, lt_of_mul-lt-mul_right, one-le-pow, pow-le-pow_left, pow-suc, pow-zero, cases_lt, mul-le, pow-add, density_low, density_high, IsNear}
use Rattle.bloom_parts.proofs.DensityLemmas.{IsEnds}

-- a power of m + 1 is at least as much more than that of m as the first term of its expansion says
-- (J. Bernoulli)
bernoulli : (m n : ℕ) → (m + n) * m ^ n ≤ m * (m + 1) ^ n
bernoulli m zero = rw (pow-zero m, pow-zero (m + 1)) (omega arith)
bernoulli m (suc n) =
    let before : (m + n) * m ^ n ≤ m * (m + 1) ^ n = bernoulli m n in
    let step : ((m + n) * m ^ n) * (m + 1) ≤ (m * (m + 1) ^ n) * (m + 1) =
    mul-le ((m + n) * m ^ n) (m + 1) (m * (m + 1) ^ n) (m + 1) before (omega arith) in
    rw (pow-suc m n, pow-suc (m + 1) n) (omega (arith, step))

-- what is kept clear, from above at first and from below later, by how much a power falls
kept-falls : (u first later all off more less : ℕ) → 0 < all → u * off ≤ first * all →
    later * (all * more) ≤ u * (off * less) → later * more ≤ first * less
kept-falls u first later all off more less some above below =
    let one : (u * off) * less ≤ (first * all) * less =
    mul-le (u * off) less (first * all) less above (omega arith) in
    let two : (later * more) * all ≤ (first * less) * all = omega (arith, one, below) in
    le_of_mul-le-mul_right two some

-- in places of one item each
kept-slope : (m n first later more less : ℕ) → 0 < less → (m + n) * less ≤ m * more →
    later * more ≤ first * less → later * (m + n) ≤ first * m
kept-slope m n first later more less some steep falls =
    let one : later * ((m + n) * less) ≤ later * (m * more) =
    mul-le later ((m + n) * less) later (m * more) (omega arith) steep in
    let two : (later * more) * m ≤ (first * less) * m =
    mul-le (later * more) m (first * less) m falls (omega arith) in
    let three : (later * (m + n)) * less ≤ (first * m) * less = omega (arith, one, two) in
    le_of_mul-le-mul_right three some

-- what is kept clear beside a bound of what is set
kept-above : (u low all off : ℕ) → low ≤ u → off ≤ all → low * all ≤ u * (all - off) →
    u * off ≤ (u - low) * all
kept-above u low all off fits within below =
    let one : u * all ≡ ((u - low) + low) * all = ap (λ v. v * all) (omega (arith, fits)) in
    let two : u * all ≡ u * ((all - off) + off) = ap (λ v. u * v) (omega (arith, within)) in
    omega (arith, one, two, below)

kept-below : (u high all off : ℕ) → high ≤ u → off ≤ all → u * (all - off) ≤ high * all →
    (u - high) * all ≤ u * off
kept-below u high all off fits within above =
    let one : u * all ≡ ((u - high) + high) * all = ap (λ v. v * all) (omega (arith, fits)) in
    let two : u * all ≡ u * ((all - off) + off) = ap (λ v. u * v) (omega (arith, within)) in
    omega (arith, one, two, above)

module _ (b k ones : ℕ) (bits : 1 < b) (some : 0 < k) where
  -- x items whose upper end lies above ones / b, and y more whose lower end lies below
  module _ (x y : ℕ) (less : x < y) (first : IsEnds b (k * x)) (later : IsEnds b (k * y))
      (above : 2 ^ 63 * ones < density_high b (k * x) * b)
      (below : density_low b (k * y) * b < 2 ^ 63 * ones) where
    -- the two densities are no further apart than their ends
    ends-close : 2 ^ 63 - density_low b (k * x) ≤ (2 ^ 63 - density_high b (k * y)) + k * (4 * y)
    ends-close =
        let order : density_low b (k * y) < density_high b (k * x) =
        lt_of_mul-lt-mul_right b (omega (arith, above, below)) in
        let few : k * x ≤ k * y = mul-le k x k y (omega arith) (omega (arith, less)) in
        omega (
          arith,
          order,
          few,
          first.near,
          later.near,
          first.fits,
          later.fits,
          first.ordered,
          later.ordered,
        )

    -- the power of the sets of the items between
    between : (c : ℕ) → c ^ (k * y) ≡ c ^ (k * x) * c ^ (k * (y - x))
    between c =
        let items : y ≡ x + (y - x) = omega (arith, less) in
        let sum : k * y ≡ k * x + k * (y - x) = ap (λ n. k * n) items ∙ omega arith in
        ap (λ n. c ^ n) sum ∙ pow-add c (k * x) (k * (y - x))

    -- what is kept clear falls with each item
    slope : (2 ^ 63 - density_high b (k * y)) * (b - 1 + k * (y - x))
        ≤ (2 ^ 63 - density_low b (k * x)) * (b - 1)
    slope =
        let n : ℕ = k * (y - x) in
        let next : b - 1 + 1 ≡ b = omega (arith, bits) in
        let steep : (b - 1 + n) * (b - 1) ^ n ≤ (b - 1) * b ^ n =
        rw next at (bernoulli (b - 1) n) in
        let all : 1 ≤ b ^ (k * x) = one-le-pow (k * x) b (omega (arith, bits)) in
        let off : 1 ≤ (b - 1) ^ n = one-le-pow n (b - 1) (omega (arith, bits)) in
        let within : (t : ℕ) → (b - 1) ^ t ≤ b ^ t = pow-le-pow_left (omega arith) in
        let start = kept-above (2 ^ 63) (density_low b (k * x)) (b ^ (k * x)) ((b - 1) ^ (k * x))
        (omega (arith, first.ordered, first.fits)) (within (k * x)) first.below in
        let end = kept-below (2 ^ 63) (density_high b (k * y)) (b ^ (k * y)) ((b - 1) ^ (k * y))
        later.fits (within (k * y)) later.above in
        let falls = kept-falls (2 ^ 63) _ (2 ^ 63 - density_high b (k * y)) (b ^ (k * x))
        ((b - 1) ^ (k * x)) (b ^ n) ((b - 1) ^ n) all start
        (rw (between b, between (b - 1)) at end) in
        kept-slope (b - 1) n _ _ (b ^ n) ((b - 1) ^ n) off steep falls

    -- so the numbers of items are no further apart
    items-close : (y - x) * (2 ^ 63 - density_high b (k * y)) ≤ 4 * (b - 1) * y
    items-close =
        let kept : ℕ = 2 ^ 63 - density_high b (k * y) in
        let apart : (2 ^ 63 - density_low b (k * x)) * (b - 1) ≤ (kept + k * (4 * y)) * (b - 1) =
        mul-le _ (b - 1) _ (b - 1) ends-close (omega arith) in
        let all : ((y - x) * kept) * k ≤ (4 * (b - 1) * y) * k = omega (arith, apart, slope) in
        le_of_mul-le-mul_right all some

-- the bounds of an estimate are near
pub is-near : (b k ones low : ℕ) (high : Option ℕ) → 1 < b → 0 < k →
    ((items : ℕ) → items < 2 ^ 64 → IsEnds b (k * items)) → IfSome high (λ most. most < 2 ^ 64) →
    (low + 1 < 2 ^ 64 → 2 ^ 63 * ones < density_high b (k * (low + 1)) * b) →
    IfSome high (λ most. 0 < most → density_low b (k * (most - 1)) * b < 2 ^ 63 * ones) →
    IsNear b k low high
is-near b k ones low None bits some ends fits last first = tt
is-near b k ones low (Some most) bits some ends fits last first =
    elim (cases_lt (low + 1) (most - 1)) [
      | inl less ↦
          let apart : most - low - 2 ≡ most - 1 - (low + 1) = omega arith in
          rw apart
          (items-close b k ones bits some (low + 1) (most - 1) less (ends (low + 1) (omega arith))
          (ends (most - 1) (omega arith)) (last (omega arith)) (first (omega arith)))
      | inr more ↦
          let none : most - low - 2 ≡ 0 = omega (arith, more) in
          rw none (omega arith)
    ]
