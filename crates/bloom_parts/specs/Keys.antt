-- The key of the default hasher: the two little-endian words of sixteen bytes (J.-P. Aumasson and
-- D. J. Bernstein, "SipHash: a fast short-input PRF", 2012, section 2).
use Rattle.std.specs.Prelude.{ℕ, List, [], take, drop}
use Rattle.std.specs.Int.{w64, from_le_bytes}
use Rattle.bloom_parts.specs.declared.hasher.CloneBuildHasher.{CloneBuildHasher}
use Rattle.bloom_parts.specs.declared.hasher.sip.RandomDefaultHasher.{RandomDefaultHasher}
use Rattle.bloom_parts.specs.Hashed.{Hashed}

-- the word of the first eight bytes
abbrev pub key_low : List ℕ → ℕ
key_low seed = from_le_bytes w64 (take 8 seed)

-- the word of the last eight bytes
abbrev pub key_high : List ℕ → ℕ
key_high seed = from_le_bytes w64 (drop 8 seed)

-- each hasher that the builder builds has this key and has taken in nothing
abbrev pub HasKey : CloneBuildHasher RandomDefaultHasher → ℕ → ℕ → Type 0
HasKey builder k0 k1 = Hashed builder.hasher k0 k1 []

-- the key of the hashers that the builder builds, as two words
abbrev pub key_of : CloneBuildHasher RandomDefaultHasher → ℕ × ℕ
key_of builder = (builder.hasher.low, builder.hasher.high)
