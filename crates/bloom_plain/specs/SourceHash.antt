-- The source hash, which stands for an item (fastbloom 0.17.0, lib.rs). The ghost members of the
-- traits tell what a hasher does and what its builder builds. An item writes lists of bytes.
use Rattle.std.specs.Prelude.{◌≡◌, ℕ, List, fold}
use Rattle.std.specs.Borrow.{Bor}
use Rattle.std.specs.List.{concat}
use Rattle.std.specs.declared.hash.BuildHasher as builder
use Rattle.std.specs.declared.hash.Hasher as hasher

-- what a fresh hasher returns after writes, in their order
abbrev pub hash_by : {H : Type 0} → hasher.Ghosts H → H → List (List ℕ) → ℕ
hash_by h fresh writes = h.finish (fold h.write fresh writes)

-- the source hash of an item: what a hasher that was built for it returns after what the item
-- writes
abbrev pub source_hash_of : {B H T : Type 0} → builder.Ghosts B H → hasher.Ghosts H
    → (T → List (List ℕ)) → B → T → ℕ
source_hash_of b h input build item = hash_by h (b.build_hasher build) (input item)

-- the source hash of an item that is lent
abbrev pub lent_hash_of : {B H T : Type 0} → builder.Ghosts B H → hasher.Ghosts H
    → (T → List (List ℕ)) → B → Bor T → ℕ
lent_hash_of b h input build item = source_hash_of b h input build item.now

-- a hasher returns this function of the bytes written, joined
abbrev pub IsFunctionOfBytes : {H : Type 0} → hasher.Ghosts H → H → (List ℕ → ℕ) → Type 0
IsFunctionOfBytes h fresh f = (writes : List (List ℕ)) → hash_by h fresh writes ≡ f (concat writes)
