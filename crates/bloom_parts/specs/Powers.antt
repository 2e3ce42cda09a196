-- Powers of fractions in units of 2^-63, by repeated squares (D. E. Knuth, The Art of Computer
-- Programming 2, section 4.6.3), with each product rounded. They decide the exact ends of brackets.
-- The unit and the rounding are this project's choice.
use Rattle.std.specs.Prelude.{ℕ, zero, suc, ◌+◌, ◌-◌, ◌*◌, ◌/◌, ◌%◌, ◌^◌}
use Rattle.std.specs.Int.{div_ceil}
use Rattle.std.specs.Int.Count.{count_leading_zeros}
use Rattle.std.specs.Int.RustNames.{count_ones}

-- the product of two fractions, rounded down
abbrev pub down_of : ℕ → ℕ → ℕ
down_of x y = x * y / 2 ^ 63

-- the product of two fractions, rounded up
abbrev pub up_of : ℕ → ℕ → ℕ
up_of x y = div_ceil (x * y) (2 ^ 63)

-- from the power to a number, the power to its double, and to one more where the digit is 1
abbrev pub next_power : (ℕ → ℕ → ℕ) → ℕ → ℕ → ℕ → ℕ
next_power product base power zero = product power power
next_power product base power (suc _) = product (product power power) base

-- the power to the number that has the lowest binary digits of an exponent, as many as are given
unfoldable pub rounded_power : ℕ → (ℕ → ℕ → ℕ) → ℕ → ℕ → ℕ → ℕ
rounded_power whole product base zero exponent = whole
rounded_power whole product base (suc digits) exponent =
    next_power product base (rounded_power whole product base digits (exponent / 2)) (exponent % 2)

-- the power to an exponent below 2^128, with a rounding of each product
abbrev pub power_of : (ℕ → ℕ → ℕ) → ℕ → ℕ → ℕ
power_of product base exponent = rounded_power (2 ^ 63) product base 128 exponent

-- the power to an exponent below 2^128, each product rounded down
abbrev pub lower_power_of : ℕ → ℕ → ℕ
lower_power_of base exponent = power_of down_of base exponent

-- the power to an exponent below 2^128, each product rounded up
abbrev pub upper_power_of : ℕ → ℕ → ℕ
upper_power_of base exponent = power_of up_of base exponent

-- how many products such a power takes: one for each binary digit of its exponent, and one more for
-- each digit that is 1
abbrev pub products_of : ℕ → ℕ
products_of exponent = 128 - count_leading_zeros 128 exponent + count_ones exponent
