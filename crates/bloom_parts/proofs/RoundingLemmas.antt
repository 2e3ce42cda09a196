-- Quotients rounded up, and rounded half up.
use Rattle.std.proofs.Common.{ℕ, ◌+◌, ◌*◌, ◌<◌, ◌≤◌, arith}
use Rattle.bloom_parts.proofs.Common.{div_ceil, div_ceil_times, mul-le, HalfUpLaw}
use Rattle.std.proofs.Math.Nat.{le-div_iff_mul-le, lt_of_mul-lt-mul_right}

-- a quotient rounded up is at most q where q times the divisor is enough
pub div_ceil-le : (x y q : ℕ) → 0 < y → x ≤ q * y → div_ceil x y ≤ q
div_ceil-le x y q above enough =
    let near : div_ceil x y * y < (q + 1) * y = omega (arith, (div_ceil_times x y above).1) in
    let below : div_ceil x y < q + 1 = lt_of_mul-lt-mul_right y near in
    omega (arith, below)

-- where a quotient rounded up is at most q, q times the divisor is enough
pub le-div_ceil : (x y q : ℕ) → 0 < y → div_ceil x y ≤ q → x ≤ q * y
le-div_ceil x y q above small =
    let more : div_ceil x y * y ≤ q * y = mul-le (div_ceil x y) y q y small (omega arith) in
    omega (arith, (div_ceil_times x y above).0, more)

-- the law of rounding half up
pub half_up_law : HalfUpLaw
half_up_law x y q above =
    let (to, from) = le-div_iff_mul-le {k = 2 * y} {x = q} {y = 2 * x + y} (omega arith) in
    ((λ below. omega (arith, to below)), (λ below. from (omega arith)))
