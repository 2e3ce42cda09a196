-- What offsets tell of items, and hashes of them: cases that hold, and the nearest that don't. The
-- items are two bytes, none, and one.
use Rattle.std.proofs.Common.{◌≡◌, ℕ, zero, suc, List, [], ◌∷◌, refl, arith}
use Rattle.bloom_parts.specs.Sip.{sip}
use Rattle.fastbloom_c.specs.Items.{AreHashes, AreOffsets, num_items}

abbrev three_bytes : List ℕ
three_bytes = 97 ∷ 98 ∷ 99 ∷ []

abbrev three_items : List ℕ
three_items = 0 ∷ 2 ∷ 2 ∷ 3 ∷ []

-- there is one item fewer than offsets; neither one offset nor none tells an item
number-items : (num_items three_items ≡ 3) × (num_items (5 ∷ []) ≡ 0) × (num_items [] ≡ 0)
number-items = (refl, refl, refl)

-- offsets that don't fall, and end with the bytes, tell items
offsets-three : AreOffsets 3 three_items
offsets-three zero within = (omega arith, omega arith)
offsets-three (suc zero) within = (omega arith, omega arith)
offsets-three (suc (suc zero)) within = (omega arith, omega arith)
offsets-three (suc (suc (suc i))) within = absurd (omega (arith, within))

-- one offset alone may point anywhere; no item ends before it begins, or past the bytes
offsets-nearest : AreOffsets 0 (5 ∷ [])
    × (AreOffsets 3 (0 ∷ 2 ∷ 1 ∷ []) → ⊥)
    × (AreOffsets 2 three_items → ⊥)
offsets-nearest = (
  λ i within. absurd (omega (arith, within)),
  λ are. omega (arith, (are 1 (omega arith)).0),
  λ are. omega (arith, (are 2 (omega arith)).1),
)

-- each hash is that of its item, the last one too, and there is none fewer
hashes-items : (k0 k1 a b c : ℕ)
    → (AreHashes k0 k1 three_bytes three_items (a ∷ b ∷ c ∷ [])
    → (a ≡ sip k0 k1 (97 ∷ 98 ∷ [])) × (b ≡ sip k0 k1 []) × (c ≡ sip k0 k1 (99 ∷ [])))
    × (AreHashes k0 k1 three_bytes three_items (a ∷ b ∷ []) → ⊥)
hashes-items k0 k1 a b c = (
  λ are. (are.each 0 (omega arith), are.each 1 (omega arith), are.each 2 (omega arith)),
  λ are. omega (arith, are.all),
)
