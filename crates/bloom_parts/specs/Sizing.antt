-- The number of hashes and the number of bits of a filter. For n bits, i items and the rate p they
-- follow the formulas n / i * ln 2 and i * log2 (1 / p) / ln 2 (B. H. Bloom, 1970; A. Broder and
-- M. Mitzenmacher, "Network applications of Bloom filters: a survey", 2004). How they
-- are rounded is this project's choice.
use Rattle.std.specs.Prelude.{◌≡◌, ◌↔◌, ℕ, ◌+◌, ◌-◌, ◌*◌, ◌/◌, ◌%◌, ◌^◌, ◌<◌, ◌≤◌, min, max, nat_eq, if◌then◌else◌}
use Rattle.std.specs.Int.{div_ceil}
use Rattle.bloom_parts.specs.Roots.{IsRoot}

-- 2^53 times the natural logarithm of 2, as the nearest double has it
abbrev pub ln_two : ℕ
ln_two = 6243314768165359

-- the quotient rounded to the nearest whole number, and a half up
abbrev pub half_up : ℕ → ℕ → ℕ
half_up x y = (2 * x + y) / (2 * y)

-- the number of hashes for bits and items, from 1 to 2^32 - 1
abbrev pub hashes_for : ℕ → ℕ → ℕ
hashes_for bits items =
    if nat_eq items 0 then (if nat_eq bits 0 then 1 else 2 ^ 32 - 1)
    else min (2 ^ 32 - 1) (max 1 (half_up (bits * ln_two) (items * 2 ^ 53)))

-- this many sixty-fourth parts of a halving take one whole to the rate num / den or below it: whole
-- halvings, and the root of the parts that remain
abbrev pub IsEnough : ℕ → ℕ → ℕ → Type 0
IsEnough num den parts =
    (t : ℕ) × IsRoot (parts % 64) t × (den * 2 ^ 32 ≤ num * 2 ^ (parts / 64) * t)

-- the halvings of the rate num / den, in sixty-fourth parts of a halving (the project's own word):
-- the least number that is enough
pub record IsHalvings (num den parts : ℕ) : Type 0 where
  pub enough : IsEnough num den parts
  pub least : (other : ℕ) → IsEnough num den other → parts ≤ other

-- the number of bits for items and parts of a halving: whole bytes, and at least one word
abbrev pub size_for : ℕ → ℕ → ℕ
size_for items parts = max 64 (8 * div_ceil (items * parts * 2 ^ 44) ln_two)

-- the number of bits for items and the rate num / den, below 2^64 or not
abbrev pub IsSizeFor : ℕ → ℕ → ℕ → ℕ → Type 0
IsSizeFor items num den size =
    (parts : ℕ) × IsHalvings num den parts × (size ≡ size_for items parts)

-- the number of bits for items and the rate num / den is 2^64 or more
abbrev pub IsTooLarge : ℕ → ℕ → ℕ → Type 0
IsTooLarge items num den = (size : ℕ) × IsSizeFor items num den size × (2 ^ 64 ≤ size)

-- the rounded quotient is the greatest number that is at most a half above the quotient
abbrev pub HalfUpLaw : Type 0
HalfUpLaw = (x y q : ℕ) → 0 < y → (q ≤ half_up x y) ↔ (2 * q * y ≤ 2 * x + y)

-- the halvings are never too few for the rate itself
abbrev pub CoverLaw : Type 0
CoverLaw = (num den parts : ℕ) → IsHalvings num den parts → den ^ 64 ≤ 2 ^ parts * num ^ 64

-- a rate of one or more has no halvings
abbrev pub NoneLaw : Type 0
NoneLaw = (num den parts : ℕ) → den ≤ num → IsHalvings num den parts → parts ≡ 0

-- a rate whose den is below 2^64 has at most 64 whole halvings
abbrev pub MostLaw : Type 0
MostLaw = (num den parts : ℕ) → 0 < num → den < 2 ^ 64 → IsHalvings num den parts → parts ≤ 4096

-- one number alone is the number of bits
abbrev pub OneSizeLaw : Type 0
OneSizeLaw = (items num den size other : ℕ) →
    IsSizeFor items num den size → IsSizeFor items num den other → size ≡ other
