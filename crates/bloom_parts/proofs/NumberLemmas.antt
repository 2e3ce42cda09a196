-- The bytes of a whole number, as the trait of hashers and as the numbers themselves call them.
use Rattle.std.proofs.Common.{◌≡◌, ℕ, refl}
use Rattle.std.specs.Hash.{le_bytes}
use Rattle.std.specs.Int.{w16, w32, w64, w128, to_le_bytes}

-- the two bytes of a number of 16 bits
pub two_bytes : (n : ℕ) → le_bytes 2 n ≡ to_le_bytes w16 n
unfolding le_bytes
two_bytes n = refl

-- the four bytes of a number of 32 bits
pub four_bytes : (n : ℕ) → le_bytes 4 n ≡ to_le_bytes w32 n
unfolding le_bytes
four_bytes n = refl

-- the eight bytes of a number of 64 bits
pub eight_bytes : (n : ℕ) → le_bytes 8 n ≡ to_le_bytes w64 n
unfolding le_bytes
eight_bytes n = refl

-- the sixteen bytes of a number of 128 bits
pub sixteen_bytes : (n : ℕ) → le_bytes 16 n ≡ to_le_bytes w128 n
unfolding le_bytes
sixteen_bytes n = refl
