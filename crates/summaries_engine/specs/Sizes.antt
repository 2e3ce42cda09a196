-- Empty filters, as the builders of the library make them.
use Rattle.std.specs.Prelude.{◌≡◌, ℕ, false, length}
use Rattle.std.specs.Int.{to_be_bytes, w128}
use Rattle.bloom_parts.specs.Content.{content}
use Rattle.bloom_parts.specs.Keys.{HasKey, key_high, key_low, key_of}
use Rattle.fastbloom.specs.Data.{DefaultFilter}
use Rattle.fastbloom.specs.Fill.{hashes_of, words_of}
use Rattle.fastbloom.specs.declared.parallel.shape.Shape.{Shape}

-- no bit is set in a filter, whose hashers have its key and have taken in nothing
pub record IsEmpty (f : DefaultFilter) : Type 0 where
  pub clear : (p : ℕ) → content f.words p ≡ false
  pub keyed : HasKey f.hasher (key_of f.hasher).0 (key_of f.hasher).1

-- a filter has the key of a seed, which is its sixteen bytes, the highest first
abbrev pub HasSeed : DefaultFilter → ℕ → Type 0
HasSeed f seed =
    HasKey f.hasher (key_low (to_be_bytes w128 seed)) (key_high (to_be_bytes w128 seed))

-- the shape is that of a filter
pub record IsShapeOf (f : DefaultFilter) (shape : Shape) : Type 0 where
  pub words : words_of shape ≡ length f.words
  pub hashes : hashes_of shape ≡ f.hashes
