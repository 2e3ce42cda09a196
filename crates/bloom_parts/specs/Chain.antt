-- The chain of a source hash, from which a filter draws its positions (fastbloom 0.17.0,
-- hasher.rs).
use Rattle.std.specs.Prelude.{◌≡◌, ℕ, zero, suc, ◌+◌, ◌*◌, ◌%◌, ◌^◌}
use Rattle.std.specs.Int.{w64, rotate_left}
use Rattle.bloom_parts.specs.declared.hasher.chain.DoubleHasher.{DoubleHasher}

-- the word that each step adds, which the source hash alone decides
abbrev pub added_of : ℕ → ℕ
added_of hash = (hash * 0x517c_c1b7_2722_0a95) % 2 ^ 64

-- value i of the chain: the source hash comes first
unfoldable pub chain : ℕ → ℕ → ℕ
chain hash zero = hash
chain hash (suc i) = (rotate_left w64 (chain hash i) 5 + added_of hash) % 2 ^ 64

-- the chain of a hash, of which i values were given
pub record IsAt (hash i : ℕ) (hasher : DoubleHasher) : Type 0 where
  pub newest : hasher.newest ≡ chain hash i
  pub added : hasher.added ≡ added_of hash
