-- The rate is at most a power of a share a little above the mean one: a product of numbers that
-- rise evenly is at most a power of the one in their middle.
use Rattle.std.proofs.Common.{◌≡◌, ℕ, zero, suc, ◌+◌, ◌-◌, ◌*◌, ◌^◌, ◌≤◌, ap, arith}
use Rattle.bloom_parts.proofs.Common.{mul-pow, mul-le, mul-le-mul_left, mul-le-mul_right, pow-le-pow_left, pow-suc, pow-zero, false_positives, UpperLaw}
use Rattle.bloom_parts.proofs.QueryLemmas.{rising, positives-product}

-- the first of them apart
rising-first : (a e k : ℕ) → rising a e (suc k) ≡ a * rising (a + e) e k
unfolding rising
rising-first a e zero = omega arith
rising-first a e (suc k) =
    omega (arith, ap (λ v. v * (a + e * suc k)) (rising-first a e k))

-- the first and the last of them are at most two of their middle
outer-two : (a n s power rest root : ℕ) → s ≡ 2 * a + n → power * rest ≤ root →
    (power * 2) * 2 * ((a * rest) * (a + n)) ≤ (root * s) * s
outer-two a n s power rest root is less =
    let square : 4 * (a * (a + n)) ≤ (2 * a + n) * (2 * a + n) = omega arith in
    let both =
    mul-le (power * rest) (4 * (a * (a + n))) root ((2 * a + n) * (2 * a + n)) less square
    in
    rw is (omega (arith, both))

-- all of them, where s is twice their middle
rising-middle : (a e k s : ℕ) → 2 * a + e * k ≡ s + e → 2 ^ k * rising a e k ≤ s ^ k
unfolding rising
rising-middle a e zero s is = rw (pow-zero s) (omega arith)
rising-middle a e (suc zero) s is =
    omega (arith, is, pow-suc s zero, ap (λ v. v * s) (pow-zero s))
rising-middle a e (suc (suc k)) s is =
    let inner : 2 ^ k * rising (a + e) e k ≤ s ^ k =
    rising-middle (a + e) e k s (omega (arith, is)) in
    let whole : rising a e (suc (suc k)) ≡ (a * rising (a + e) e k) * (a + e * suc k) =
    ap (λ v. v * (a + e * suc k)) (rising-first a e k) in
    rw (whole, pow-suc 2 (suc k), pow-suc 2 k, pow-suc s (suc k), pow-suc s k)
    (outer-two a (e * suc k) s (2 ^ k) (rising (a + e) e k) (s ^ k) (omega (arith, is)) inner)

-- the same, with the middle written out
rising-half : (a e k : ℕ) → 2 ^ k * rising a e k ≤ (2 * a + e * (k - 1)) ^ k
unfolding rising
rising-half a e zero = rw (pow-zero (2 * a + e * (0 - 1))) (omega arith)
rising-half a e (suc k) =
    let last : suc k - 1 ≡ k = omega arith in
    rw last (rising-middle a e (suc k) (2 * a + e * k) (omega arith))

-- twos on both sides
with-twos : (count power twos whole rest root : ℕ) → count * power ≤ whole * rest →
    twos * rest ≤ root → count * (power * twos) ≤ whole * root
with-twos count power twos whole rest root first second =
    omega (arith, mul-le-mul_right twos first, mul-le-mul_left whole second)

pub upper_law : UpperLaw
upper_law zero t k some = absurd (omega arith)
upper_law (suc m) t k some =
    let less : suc m - 1 ≡ m = omega arith in
    let fits : m ^ t ≤ suc m ^ t = pow-le-pow_left (omega arith) t in
    let off : suc m ^ t - (suc m ^ t - m ^ t) ≡ m ^ t = omega (arith, fits) in
    let parts : suc m ^ t * (2 * suc m) ≡ (suc m ^ t * suc m) * 2 = omega arith in
    let drawn : ℕ = (suc m ^ t - m ^ t) * suc m in
    let double : (suc m ^ t - m ^ t) * (2 * suc m) ≡ 2 * drawn = omega arith in
    rw (less, off, parts, double, mul-pow (suc m ^ t * suc m) 2 k)
    (with-twos (false_positives (suc m) t k) ((suc m ^ t * suc m) ^ k) (2 ^ k)
    (suc m ^ (t + k)) (rising drawn (m ^ t) k) ((2 * drawn + m ^ t * (k - 1)) ^ k)
    (positives-product m t k) (rising-half drawn (m ^ t) k))
