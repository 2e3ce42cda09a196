-- Items whose bytes lie one behind the other in one list, with an offset for where each begins and
-- a last one for where the last item ends, as Apache Arrow lays out large binary arrays.
use Rattle.std.specs.Prelude.{◌≡◌, ℕ, ◌+◌, ◌-◌, ◌≤◌, ◌<◌, List, length, slice_index, slice_range}
use Rattle.bloom_parts.specs.Sip.{sip}

-- how many items these offsets tell
abbrev pub num_items : List ℕ → ℕ
num_items offsets = length offsets - 1

-- the bytes of item i
abbrev pub item : List ℕ → List ℕ → ℕ → List ℕ
item bytes offsets i =
    slice_range bytes (slice_index offsets i) (slice_index offsets (i + 1))

-- no item of this many bytes ends before it begins, or past the bytes
abbrev pub AreOffsets : ℕ → List ℕ → Type 0
AreOffsets len offsets = (i : ℕ) → i < num_items offsets
    → (slice_index offsets i ≤ slice_index offsets (i + 1))
    × (slice_index offsets (i + 1) ≤ len)

-- there is a hash for each item, and it is SipHash-1-3 of just the item's bytes under a key
pub record AreHashes (k0 k1 : ℕ) (bytes offsets hashes : List ℕ) : Type 0 where
  pub all : length hashes ≡ num_items offsets
  pub each : (i : ℕ) → i < num_items offsets
      → slice_index hashes i ≡ sip k0 k1 (item bytes offsets i)
