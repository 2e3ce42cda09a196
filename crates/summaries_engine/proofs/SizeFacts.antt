-- Empty filters, seeds and shapes: cases that hold, and the nearest that don't.
use Rattle.std.proofs.Common.{◌≡◌, ◌^◌, true, false, [], ◌∷◌, refl, sym, ◌∙◌, arith}
use Rattle.summaries_engine.proofs.Common.{content, whole_words, rest, content-zeros, DefaultFilter}
use Rattle.summaries_engine.specs.Sizes.{HasSeed, IsEmpty, IsShapeOf}
use Rattle.summaries_engine.proofs.Cases.{line, line_shape, made_of}

-- no bit may be set, nor may the hashers have taken in a byte
empty : IsEmpty (line 0)
    × (IsEmpty (line 1) → ⊥)
    × ((f : DefaultFilter) → f.hasher.hasher.count ≡ 1 → IsEmpty f → ⊥)
unfolding content whole_words rest
empty = (
  record {
    clear = content-zeros 8;
    keyed = record { low = refl; high = refl; words = refl; held = refl; count = refl };
  },
  λ is. let wrong : true ≡ false = is.clear 192 in cc,
  λ f one is. let wrong : 1 ≡ 0 = sym one ∙ is.keyed.count in omega (arith, wrong),
)

-- a seed has its highest byte first: 2 ^ 120 is a byte 1 and fifteen zero bytes
seed : HasSeed (made_of [] 2 1 0) (2 ^ 120)
    × (HasSeed (made_of [] 2 0 1) (2 ^ 120) → ⊥)
    × (HasSeed (made_of [] 2 1 1) (2 ^ 120) → ⊥)
unfolding whole_words rest
seed = (
  record { low = refl; high = refl; words = refl; held = refl; count = refl },
  λ is. let wrong : 0 ≡ 1 = is.low in omega (arith, wrong),
  λ is. let wrong : 1 ≡ 0 = is.high in omega (arith, wrong),
)

-- the shape is that of the filter, by words and hashes
shape-own : IsShapeOf (line 5) line_shape
    × (IsShapeOf (made_of (5 ∷ []) 2 0 0) line_shape → ⊥)
    × (IsShapeOf (made_of (line 5).words 3 0 0) line_shape → ⊥)
shape-own = (
  record { words = refl; hashes = refl },
  λ is. let wrong : 8 ≡ 1 = is.words in omega (arith, wrong),
  λ is. let wrong : 2 ≡ 3 = is.hashes in omega (arith, wrong),
)
