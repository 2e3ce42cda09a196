-- The positions of a hash in a filter of n bits and k hashes (fastbloom 0.17.0, lib.rs).
use Rattle.std.specs.Prelude.{◌≡◌, ◌↔◌, ◌<◌, ◌^◌, ℕ, zero, suc, Bool, true, false, ◌||◌, ◌&&◌, ◌==◌}
use Rattle.bloom_parts.specs.Content.{index_of}
use Rattle.bloom_parts.specs.Chain.{chain}

-- position i of a hash
abbrev pub place : ℕ → ℕ → ℕ → ℕ
place n hash i = index_of n (chain hash i)

-- the set of the first k positions of a hash
unfoldable pub positions : ℕ → ℕ → ℕ → ℕ → Bool
positions n zero hash p = false
positions n (suc k) hash p = positions n k hash p || p == place n hash k

-- whether the first k positions of a hash are all in a set
unfoldable pub are_in : ℕ → ℕ → ℕ → (ℕ → Bool) → Bool
are_in n zero hash A = true
are_in n (suc k) hash A = are_in n k hash A && A (place n hash k)

-- p is one of the first k positions of a hash
pub record IsPosition (n k hash p : ℕ) : Type 0 where
  pub index : ℕ
  pub below : index < k
  pub here : place n hash index ≡ p

-- one set is a part of the other
abbrev pub IsPart : (ℕ → Bool) → (ℕ → Bool) → Type 0
IsPart A B = (p : ℕ) → A p ≡ true → B p ≡ true

-- `positions` has exactly the positions of a hash
abbrev pub PositionsLaw : Type 0
PositionsLaw = (n k hash p : ℕ) → (positions n k hash p ≡ true) ↔ IsPosition n k hash p

-- `are_in` tells whether the positions of a hash are a part of a set
abbrev pub SubsetLaw : Type 0
SubsetLaw =
    (n k hash : ℕ) (A : ℕ → Bool) → (are_in n k hash A ≡ true) ↔ IsPart (positions n k hash) A

-- each position lies within the bits
abbrev pub RangeLaw : Type 0
RangeLaw = (n k hash p : ℕ) → 0 < n → hash < 2 ^ 64 → positions n k hash p ≡ true → p < n
