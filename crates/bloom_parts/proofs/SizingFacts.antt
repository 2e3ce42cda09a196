-- Roots, sizes and numbers of hashes at values from outside: for each definition that public
-- clauses cite a case that holds and cases as near as can be that don't.
use Rattle.std.proofs.Common.{◌≡◌, ℕ, ◌+◌, ◌-◌, ◌*◌, ◌^◌, ◌≤◌, refl, ap, ◌∙◌, arith, lit<, lit≤}
use Rattle.bloom_parts.specs.Roots.{IsRoot}
use Rattle.bloom_parts.specs.Sizing.{IsHalvings, IsSizeFor, IsTooLarge, hashes_for, half_up, size_for, HalfUpLaw, CoverLaw, NoneLaw, MostLaw, OneSizeLaw}
use Rattle.bloom_parts.proofs.RootLemmas.{root-zero}
use Rattle.bloom_parts.proofs.HalvingLemmas.{next-halvings}

-- no number next to a root is a root
is_root-cases : IsRoot 16 5107605667 × (IsRoot 16 5107605666 → ⊥) × (IsRoot 16 5107605668 → ⊥)
is_root-cases = (
  record { at_most = lit≤ tt; greatest = lit< tt },
  λ is. omega (arith, is.greatest),
  λ is. omega (arith, is.at_most),
)

-- many items and few, no items, no bits, the greatest numbers, and a quotient of two and a half
hashes_for-cases : (hashes_for 1024 2 ≡ 355) × (hashes_for 1024 500 ≡ 1) × (hashes_for 64 1 ≡ 44)
    × (hashes_for 64 0 ≡ 2 ^ 32 - 1) × (hashes_for 0 0 ≡ 1) × (hashes_for 0 5 ≡ 1)
    × (hashes_for (2 ^ 64 - 1) 1 ≡ 2 ^ 32 - 1) × (hashes_for 64 (2 ^ 64 - 1) ≡ 1)
    × (hashes_for 22517998136852480 6243314768165359 ≡ 3)
hashes_for-cases = (refl, refl, refl, refl, refl, refl, refl, refl, refl)

-- the rate of a half has one halving, and a thousandth nearly ten
halvings-half : IsHalvings 1 2 64
halvings-half =
    next-halvings 1 2 0 63 8497403929 (record { at_most = lit≤ tt; greatest = lit< tt }) (lit< tt)
    (lit< tt) (2 ^ 32, root-zero, lit≤ tt)

halvings-thousandth : IsHalvings 1 1000 638
halvings-thousandth =
    next-halvings 1 1000 9 61 8315322086 (record { at_most = lit≤ tt; greatest = lit< tt })
    (lit< tt) (lit< tt)
    (8405870006, record { at_most = lit≤ tt; greatest = lit< tt }, lit≤ tt)

-- the size for the rate of a half is that for 64 parts of a halving
half-size : (items size : ℕ) → IsSizeFor items 1 2 size → size ≡ size_for items 64
half-size items size (parts, is, same) =
    let most : parts ≤ 64 = is.least 64 halvings-half.enough in
    let least : 64 ≤ parts = halvings-half.least parts is.enough in
    let whole : parts ≡ 64 = omega (arith, most, least) in
    same ∙ ap (size_for items) whole

-- a thousand items at the rates of a half and a thousandth, no byte less, and no byte more
is_size_for-cases : IsSizeFor 1000 1 2 1448 × IsSizeFor 1000 1 1000 14384 × IsSizeFor 1 1 2 64
    × (IsSizeFor 1000 1 2 1440 → ⊥)
    × (IsSizeFor 1000 1 2 1456 → ⊥)
is_size_for-cases = (
  (64, halvings-half, refl),
  (638, halvings-thousandth, refl),
  (64, halvings-half, refl),
  λ is. omega (arith, half-size 1000 1440 is),
  λ is. omega (arith, half-size 1000 1456 is),
)

-- the first size of 2^64 bits, and the last that is less
is_too_large-cases : IsTooLarge 12786308645202655227 1 2 × (IsTooLarge 12786308645202655226 1 2 → ⊥)
is_too_large-cases = (
  (2 ^ 64, (64, halvings-half, refl), lit≤ tt),
  λ (size, is, large). omega (arith, half-size 12786308645202655226 size is, large),
)

-- the law of rounding half up, at quotients by three
from_half_up : HalfUpLaw → (x q : ℕ) → (q ≤ half_up x 3 → 2 * q * 3 ≤ 2 * x + 3)
    × (2 * q * 3 ≤ 2 * x + 3 → q ≤ half_up x 3)
from_half_up law x q = let both = law x 3 q (lit< tt) in (both.0, both.1)

-- the halvings of two thirds cover them
from_cover : CoverLaw → (parts : ℕ) → IsHalvings 2 3 parts → 3 ^ 64 ≤ 2 ^ parts * 2 ^ 64
from_cover law parts is = law 2 3 parts is

-- a rate of one has no halvings
from_none : NoneLaw → (parts : ℕ) → IsHalvings 3 3 parts → parts ≡ 0
from_none law parts is = law 3 3 parts (lit≤ tt) is

-- the least rate has at most 64 whole halvings
from_most : MostLaw → (parts : ℕ) → IsHalvings 1 (2 ^ 64 - 1) parts → parts ≤ 4096
from_most law parts is = law 1 (2 ^ 64 - 1) parts (lit< tt) (lit< tt) is

-- the size for a thousand items at the rate of a half is no other than 1448
from_one_size : OneSizeLaw → (size : ℕ) → IsSizeFor 1000 1 2 size → size ≡ 1448
from_one_size law size is = law 1000 1 2 size 1448 is is_size_for-cases.0
