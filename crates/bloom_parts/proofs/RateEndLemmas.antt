-- The ends of the rate of false positives, from those of the mean share of the bits that is set.
use Rattle.std.proofs.Common.{◌≡◌, ℕ, suc, ◌+◌, ◌-◌, ◌*◌, ◌^◌, ◌<◌, ◌≤◌, Bool, true, false, ap, arith, inl, inr, min}
use Rattle.bloom_parts.proofs.Common.{cases_lt, div_ceil_times, mul-le, pow-add, div_ceil, count_on, is_drawn, all_in, one_if, positives, drawn_lists, false_positives}
use Rattle.std.proofs.Math.Nat.{le_of_mul-le-mul_right, mul-le-mul_left, mul-le-mul_right, lt_of_mul-lt-mul_right, one-le-mul, one-le-pow, pow-le-pow_left, pow-suc}
use Rattle.bloom_parts.proofs.CountLemmas.{count-most}
use Rattle.bloom_parts.proofs.DrawLemmas.{draws-le, draws-scale, draws-all}
use Rattle.bloom_parts.proofs.FormulaLemmas.{formula_law}
use Rattle.bloom_parts.proofs.MeanLemmas.{mean_law, powers_law}
use Rattle.bloom_parts.proofs.UpperLemmas.{upper_law}

-- one for an answer, at most
one-most : (holds : Bool) → one_if holds ≤ 1
one-most true = omega arith
one-most false = omega arith

-- a set answers no more queries than there are
positives-most : (b k : ℕ) (A : ℕ → Bool) → positives b k A ≤ b ^ k
positives-most b k A =
    omega (
      arith,
      draws-le b k (λ q. one_if (all_in A q)) (λ q. 1) (λ q is. one-most (all_in A q)),
      draws-all b k,
    )

-- no more pairs are a false positive than there are
pub false_positives-most : (b t k : ℕ) → false_positives b t k ≤ b ^ (t + k)
false_positives-most b t k =
    let each = draws-le b t (λ d. positives b k (is_drawn d)) (λ d. b ^ k * 1)
    (λ d long. omega (arith, positives-most b k (is_drawn d))) in
    rw (pow-add b t k)
    (omega (arith, each, draws-scale b t (b ^ k) (λ d. 1), ap (λ v. b ^ k * v) (draws-all b t)))

-- a power of a number, by one factor of it
power-least : (x b k : ℕ) → x ≤ b → x ^ suc k ≤ b ^ k * x
power-least x b k few = rw (pow-suc x k) (mul-le-mul_right x (pow-le-pow_left few k))

-- the rate is at most the mean share, where a query has a position
pub false_positives-mean : (b t k : ℕ) → 0 < b →
    false_positives b t (suc k) ≤ b ^ k * (b * drawn_lists b t)
false_positives-mean b t k some =
    let each = draws-le b t (λ d. count_on (is_drawn d) b ^ suc k)
    (λ d. b ^ k * count_on (is_drawn d) b)
    (λ d long. power-least (count_on (is_drawn d) b) b k (count-most (is_drawn d) b)) in
    let scaled = draws-scale b t (b ^ k) (λ d. count_on (is_drawn d) b) in
    rw (powers_law b t (suc k)) (omega (
      arith,
      each,
      scaled,
      ap (λ v. b ^ k * v) (mean_law b t some),
    ))

-- a factor that both sides have
without : (low whole count unit least root : ℕ) → 0 < root → low * root ≤ unit * least →
    least * whole ≤ count * root → low * whole ≤ unit * count
without low whole count unit least root some first second =
    let all : (low * whole) * root ≤ (unit * count) * root =
    omega (arith, mul-le-mul_right whole first, mul-le-mul_left unit second) in
    le_of_mul-le-mul_right all some

-- a lower end of the power to k of the mean share is one of the rate
pub rate-above : (u low b t k : ℕ) → 0 < b → low * (b ^ t) ^ k ≤ u * drawn_lists b t ^ k →
    low * b ^ (t + k) ≤ u * false_positives b t k
rate-above u low b t k some end =
    let root : 0 < (b ^ t) ^ k = one-le-pow k (b ^ t) (one-le-pow t b some) in
    without low (b ^ (t + k)) (false_positives b t k) u (drawn_lists b t ^ k) ((b ^ t) ^ k) root end
    (formula_law b t k some)

-- a share between, from its upper end: drawn and rest are the parts of a whole
greater-share : (u share whole drawn rest c n more : ℕ) → whole ≡ drawn + rest → share ≤ u →
    u * drawn ≤ share * whole → c ≤ n → (u - share) * c ≤ more * n →
    u * (drawn * n + rest * c) ≤ (share + more) * (whole * n)
greater-share u share whole drawn rest c n more parts fits end few up =
    let left : ℕ = u - share in
    let over : ℕ = share * whole - u * drawn in
    let unit : u ≡ share + left = omega arith in
    let high : share * whole ≡ u * drawn + over = omega (arith, end) in
    let all : u * drawn + u * rest ≡ share * whole + left * whole =
    omega (arith, ap (λ v. v * whole) unit, ap (λ v. u * v) parts) in
    let off : u * rest ≡ left * whole + over = omega (arith, all, high) in
    let first : u * drawn * n + over * n ≡ share * whole * n =
    omega (arith, ap (λ v. v * n) high) in
    let second : u * rest * c ≡ left * whole * c + over * c =
    omega (arith, ap (λ v. v * c) off) in
    omega (arith, first, second, mul-le-mul_left over few, mul-le-mul_right whole up)

-- the upper law, for what is left at most
capped : (b t k : ℕ) → 0 < b → false_positives b t k * (b ^ t * (2 * b)) ^ k
    ≤ b ^ (t + k)
    * (drawn_lists b t * (2 * b) + (b ^ t - drawn_lists b t) * min (k - 1) (2 * b)) ^ k
capped b t k some = elim (cases_lt (2 * b) (k - 1)) [
  | inl many ↦
      let cap : min (k - 1) (2 * b) ≡ 2 * b = omega (arith, many) in
      let fits : drawn_lists b t ≤ b ^ t = omega arith in
      let parts : drawn_lists b t + (b ^ t - drawn_lists b t) ≡ b ^ t = omega (arith, fits) in
      let whole : drawn_lists b t * (2 * b) + (b ^ t - drawn_lists b t) * (2 * b)
      ≡ b ^ t * (2 * b) = omega (arith, ap (λ v. v * (2 * b)) parts) in
      rw (cap, whole) (mul-le-mul_right ((b ^ t * (2 * b)) ^ k) (false_positives-most b t k))
  | inr few ↦
      let cap : min (k - 1) (2 * b) ≡ k - 1 = omega (arith, few) in
      rw cap (upper_law b t k some)
]

-- the upper end of the mean share, and (k - 1) / (2 * b) of what it leaves, rounded up
abbrev pub raised : ℕ → ℕ → ℕ → ℕ → ℕ
raised u b k share = share + div_ceil ((u - share) * min (k - 1) (2 * b)) (2 * b)

-- what is an upper end of the power to k of all that is at most the greater share, is one of the
-- rate
pub rate-below : (u share high b t k : ℕ) → 0 < b → share ≤ u →
    u * drawn_lists b t ≤ share * b ^ t →
    ((p q : ℕ) → u * p ≤ raised u b k share * q → u * p ^ k ≤ high * q ^ k) →
    u * false_positives b t k ≤ high * b ^ (t + k)
rate-below u share high b t k some fits end power =
    let drawn : ℕ = drawn_lists b t in
    let rest : ℕ = b ^ t - drawn in
    let cap : ℕ = min (k - 1) (2 * b) in
    let up = div_ceil_times ((u - share) * cap) (2 * b) (omega (arith, some)) in
    let less : drawn ≤ b ^ t = omega arith in
    let between =
    greater-share u share (b ^ t) drawn rest cap (2 * b) (div_ceil ((u - share) * cap) (2 * b))
    (omega (arith, less)) fits end (omega arith) up.0 in
    let powers = power (drawn * (2 * b) + rest * cap) (b ^ t * (2 * b)) between in
    let root : 0 < (b ^ t * (2 * b)) ^ k =
    one-le-pow k (b ^ t * (2 * b)) (one-le-mul (one-le-pow t b some) (omega (arith, some))) in
    let all = without (false_positives b t k) u high (b ^ (t + k))
    ((drawn * (2 * b) + rest * cap) ^ k) ((b ^ t * (2 * b)) ^ k) root (capped b t k some)
    (omega (arith, powers)) in
    omega (arith, all)

-- the greater share is a share
pub raised-fits : (u share b k : ℕ) → 0 < b → share ≤ u → raised u b k share ≤ u
raised-fits u share b k some fits =
    let cap : ℕ = min (k - 1) (2 * b) in
    let few : (u - share) * cap ≤ (u - share) * (2 * b) =
    mul-le-mul_left (u - share) (omega arith) in
    let up = div_ceil_times ((u - share) * cap) (2 * b) (omega (arith, some)) in
    let near : div_ceil ((u - share) * cap) (2 * b) * (2 * b) < (u - share + 1) * (2 * b) =
    omega (arith, up.1, few) in
    omega (arith, lt_of_mul-lt-mul_right (2 * b) near, fits)

-- the greater share is near
pub raised-near : (u share b k : ℕ) → 0 < b →
    raised u b k share ≤ share + div_ceil (u * (k - 1)) (2 * b)
raised-near u share b k some =
    let cap : ℕ = min (k - 1) (2 * b) in
    let few : (u - share) * cap ≤ u * (k - 1) =
    mul-le (u - share) cap u (k - 1) (omega arith) (omega arith) in
    let up = div_ceil_times ((u - share) * cap) (2 * b) (omega (arith, some)) in
    let most = div_ceil_times (u * (k - 1)) (2 * b) (omega (arith, some)) in
    let near : div_ceil ((u - share) * cap) (2 * b) * (2 * b)
    < (div_ceil (u * (k - 1)) (2 * b) + 1) * (2 * b) =
    omega (arith, up.1, most.0, few) in
    omega (arith, lt_of_mul-lt-mul_right (2 * b) near)
