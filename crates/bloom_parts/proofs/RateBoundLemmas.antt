-- Brackets of rates of false positives, from those of shares of set bits.
use Rattle.std.proofs.Common.{◌≡◌, ℕ, zero, suc, ◌+◌, ◌-◌, ◌*◌, ◌/◌, ◌^◌, ◌<◌, ◌≤◌, Bool, true, ◌||◌, eqb, if◌then◌else◌, refl, ap, ◌∙◌, arith, inl, inr, min, max}
use Rattle.bloom_parts.proofs.Common.{cases_lt, cond-false, ne_eqb, div_ceil_times, mul-le, div-mul-le_self, mul-le-mul_left, pow-zero, div_ceil, Bracket, low_of, high_of, width_of, Holds, HoldsDensity, count_on, drawn_lists, false_positives, positives, lower_power_of, upper_power_of}
use Rattle.bloom_parts.specs.FalsePositives.{HoldsFalsePositives, HoldsPositives, HoldsEither, share_above, false_pos_high, false_pos_width}
use Rattle.bloom_parts.proofs.CountLemmas.{count-most}
use Rattle.bloom_parts.proofs.DensityLemmas.{density-none}
use Rattle.bloom_parts.proofs.EndLemmas.{lower-holds, upper-holds, upper-none}
use Rattle.bloom_parts.proofs.RateEndLemmas.{false_positives-most, false_positives-mean, rate-above, rate-below, raised, raised-near}
use Rattle.bloom_parts.proofs.MeanLemmas.{positives_law}

-- the share above one that isn't nothing
share-some : (b k high : ℕ) → 0 < high → share_above b k high ≡ raised (2 ^ 63) b k high
share-some b k high some =
    cond-false (eqb high 0) 0 (raised (2 ^ 63) b k high)
    (ne_eqb high 0 (λ is. omega (arith, is, some)))

share-near : (b k high : ℕ) → 0 < b →
    share_above b k high ≤ high + div_ceil (2 ^ 63 * (k - 1)) (2 * b)
share-near b k zero some = omega arith
share-near b k (suc high) some =
    rw (share-some b k (suc high) (omega arith)) (raised-near (2 ^ 63) (suc high) b k some)

-- a count that is nothing, below any bound
nothing-below : (u count bound : ℕ) → count ≡ 0 → u * count ≤ bound
nothing-below u count bound none = rw none (omega arith)

-- no position was drawn, so none of a query is found
none-below : (b t k : ℕ) → 0 < b → drawn_lists b t ≡ 0 →
    2 ^ 63 * false_positives b t k ≤ upper_power_of 0 k * b ^ (t + k)
none-below b t zero some none =
    let one : 2 ^ 63 * 0 ^ 0 ≤ upper_power_of 0 0 * 1 ^ 0 =
    upper-holds 0 0 0 1 (omega arith) (omega arith) in
    mul-le (2 ^ 63) (false_positives b t 0) (upper_power_of 0 0) (b ^ (t + 0))
    (omega (arith, one, pow-zero 0, pow-zero 1)) (false_positives-most b t 0)
none-below b t (suc k) some none =
    let mean = false_positives-mean b t k some in
    let bound : b ^ k * (b * drawn_lists b t) ≡ 0 =
    ap (λ v. b ^ k * (b * v)) none ∙ omega arith in
    nothing-below (2 ^ 63) (false_positives b t (suc k)) _ (omega (arith, mean, bound))

-- the upper end of the rate
rate-most : (b t k high : ℕ) → 0 < b → k < 2 ^ 128 → high ≤ 2 ^ 63 →
    2 ^ 63 * drawn_lists b t ≤ high * b ^ t →
    2 ^ 63 * false_positives b t k ≤ upper_power_of (share_above b k high) k * b ^ (t + k)
rate-most b t k zero some few fits end = none-below b t k some (omega (arith, end))
rate-most b t k (suc high) some few fits end =
    let share : ℕ = raised (2 ^ 63) b k (suc high) in
    rw (share-some b k (suc high) (omega arith))
    (rate-below (2 ^ 63) (suc high) (upper_power_of share k) b t k some fits end
    (λ p q less. upper-holds share k p q few less))

-- the rate lies between a power of the lower end of the mean share, and one of the greater share
pub rate-between : (density rate : Bracket) (b t k : ℕ) → 0 < b → k < 2 ^ 128 →
    HoldsDensity density b t → low_of rate ≡ lower_power_of (low_of density) k →
    high_of rate ≡ upper_power_of (share_above b k (high_of density)) k →
    HoldsFalsePositives rate b t k
rate-between density rate b t k some few is low_is high_is = record {
  at_least =
      rw low_is
      (rate-above (2 ^ 63) (lower_power_of (low_of density) k) b t k some
      (lower-holds (low_of density) k (drawn_lists b t) (b ^ t) few is.at_least));
  at_most =
      rw high_is (rate-most b t k (high_of density) some few density.in_range is.at_most);
}

-- its width, from that of the mean share
pub rate-near : (density shares rate : Bracket) (b t k : ℕ) → 0 < b → HoldsDensity density b t →
    (0 < t → width_of density ≤ 2 * t - 1) → (t ≡ 0 → width_of density ≡ 0) →
    low_of shares ≡ low_of density → high_of shares ≡ share_above b k (high_of density) →
    width_of rate ≤ k * (width_of shares + 1) →
    (0 < k → high_of shares ≡ 0 → width_of rate ≡ 0) →
    width_of rate ≤ false_pos_width b t k
rate-near density shares rate b t zero some is near none low_is high_is width width_none =
    omega (arith, width)
rate-near density shares rate b zero (suc k) some is near none low_is high_is width width_none =
    let start : low_of density * 1 ≤ 2 ^ 63 * 0 =
    rw (pow-zero b, pow-zero (b - 1)) at is.at_least in
    let off : high_of density ≡ 0 = omega (arith, none refl, start) in
    let nothing : high_of shares ≡ 0 = rw off at high_is in
    omega (arith, width_none (omega arith) nothing)
rate-near density shares rate b (suc t) (suc k) some is near none low_is high_is width width_none =
    let more : ℕ = div_ceil (2 ^ 63 * (suc k - 1)) (2 * b) in
    let above = share-near b (suc k) (high_of density) some in
    let apart : width_of shares + 1 ≤ 2 * suc t + more =
    omega (arith, near (omega arith), above, low_is, high_is) in
    le_of width (mul-le-mul_left (suc k) apart)
  where
    le_of : {x y z : ℕ} → x ≤ y → y ≤ z → x ≤ z
    le_of first second = omega (arith, first, second)

-- the share of a set, rounded either way
pub share-low : (b ones : ℕ) → (2 ^ 63 * ones / b) * b ≤ 2 ^ 63 * ones
share-low b ones = div-mul-le_self (2 ^ 63 * ones) b

pub share-high : (b ones : ℕ) → 0 < b → 2 ^ 63 * ones ≤ div_ceil (2 ^ 63 * ones) b * b
share-high b ones some = (div_ceil_times (2 ^ 63 * ones) b some).0

-- the roundings are one unit apart at most
pub share-apart : (b ones : ℕ) → div_ceil (2 ^ 63 * ones) b ≤ 2 ^ 63 * ones / b + 1
share-apart b ones = omega arith

-- the width of a power, from one unit
pub width-twice : (rate : Bracket) (k : ℕ) {width : ℕ} → width ≤ 1 →
    width_of rate ≤ k * (width + 1) → width_of rate ≤ 2 * k
width-twice rate k {width} near apart =
    omega (arith, apart, mul-le-mul_left k near)

-- the rate of a set, from its share
pub positives-between : (rate : Bracket) (b k ones : ℕ) → 0 < b →
    Holds rate (ones ^ k) (b ^ k) → (A : ℕ → Bool) → count_on A b ≡ ones →
    HoldsPositives rate b k A
positives-between rate b k ones some is A members =
    let count : positives b k A ≡ ones ^ k = positives_law b k A ∙ ap (λ v. v ^ k) members in
    record { at_least = rw count is.at_least; at_most = rw count is.at_most }

-- how many of n queries one of two tests holds for
either-least : (A B : ℕ → Bool) (n : ℕ) → (count_on A n ≤ count_on (λ q. A q || B q) n)
    × (count_on B n ≤ count_on (λ q. A q || B q) n)
    × (count_on (λ q. A q || B q) n ≤ count_on A n + count_on B n)
unfolding count_on
either-least A B zero = (omega arith, omega arith, omega arith)
either-least A B (suc n) =
    let before = either-least A B n in
    let last = one-either (A n) (B n) in (
      omega (arith, before.0, last.0),
      omega (arith, before.1, last.1),
      omega (arith, before.2, last.2),
    )
  where
    one-either : (a b : Bool) → ((if a then 1 else 0) ≤ (if a || b then 1 else 0))
        × ((if b then 1 else 0) ≤ (if a || b then 1 else 0))
        × ((if a || b then 1 else 0) ≤ (if a then 1 else 0) + (if b then 1 else 0))
    one-either true true = (omega arith, omega arith, omega arith)
    one-either _ _ = (omega arith, omega arith, omega arith)

-- the greater of two lower ends of parts of one is a lower end
max-below : (a b n u one : ℕ) → a * n ≤ u * one → b * n ≤ u * one → max a b * n ≤ u * one
max-below a b n u one first second = elim (cases_lt a b) [
  | inl less ↦ let is : max a b ≡ b = omega (arith, less) in rw is second
  | inr over ↦ let is : max a b ≡ a = omega (arith, over) in rw is first
]

-- an upper end, and one whole, are above a part
min-above : (u high n count : ℕ) → count ≤ n → u * count ≤ high * n → u * count ≤ min u high * n
min-above u high n count few less = elim (cases_lt u high) [
  | inl over ↦ let is : min u high ≡ u = omega (arith, over) in rw is (mul-le-mul_left u few)
  | inr under ↦ let is : min u high ≡ high = omega (arith, under) in rw is less
]

-- the part for which one of two tests holds lies between these ends
pub either-between : (first second either : Bracket) →
    low_of either ≡ max (low_of first) (low_of second) →
    high_of either ≡ min (2 ^ 63) (high_of first + high_of second) →
    HoldsEither first second either
either-between first second either low_is high_is n A B one other =
    let counts = either-least A B n in
    let both : ℕ = count_on (λ q. A q || B q) n in
    record {
      at_least =
          rw low_is (max-below (low_of first) (low_of second) n (2 ^ 63) both
          (omega (arith, one.at_least, counts.0)) (omega (arith, other.at_least, counts.1)));
      at_most =
          rw high_is (min-above (2 ^ 63) (high_of first + high_of second) n both
          (count-most (λ q. A q || B q) n)
          (omega (arith, one.at_most, other.at_most, counts.2)));
    }

-- no item errs
pub rate-none : (b k : ℕ) → 0 < b → 0 < k → k < 2 ^ 128 → false_pos_high b (k * 0) k ≡ 0
rate-none b k bits some fits =
    let (_, none) = density-none b (k * 0) bits (omega arith) in
    ap (λ high. upper_power_of (share_above b k high) k) none ∙ upper-none k fits some
