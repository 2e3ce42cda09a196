-- What a filter is to keys, and united filters to the keys of all. A key is a list of bytes, whose
-- hash is SipHash-1-3 under the filter's own key. That is this project's own.
use Rattle.std.specs.Prelude.{◌≡◌, ◌↔◌, ℕ, ◌*◌, ◌/◌, Bool, true, List, length, map, flat_map, All}
use Rattle.std.specs.List.{AllZip, Contains, list_any}
use Rattle.bloom_parts.specs.Content.{content, AreWords}
use Rattle.bloom_parts.specs.Keys.{key_of}
use Rattle.bloom_parts.specs.Sip.{sip}
use Rattle.bloom_files.specs.declared.layout.Layout.{Layout}
use Rattle.bloom_files.specs.declared.layout.Layout.TheVariants.{Whole, Lines}
use Rattle.fastbloom.specs.Fill.{hashes_of, positions_of_all, words_of}
use Rattle.fastbloom.specs.Many.{positions_in_lines}
use Rattle.fastbloom.specs.declared.parallel.shape.Shape.{Shape}
use Rattle.summaries_engine.specs.declared.kinds.AnyFilter.{AnyFilter}
use Rattle.summaries_engine.specs.Kinds.{HaveSameKind, HaveOneShape, has_hash, layout_of, parts_of}

-- the hash of a key's bytes in a filter
abbrev pub hash_in : AnyFilter → List ℕ → ℕ
hash_in f key = sip (key_of (parts_of f).hasher).0 (key_of (parts_of f).hasher).1 key

-- the positions of hashes in a filter of this layout and shape: anywhere in it, or in lines, each
-- of eight words
abbrev pub positions_in : Layout → Shape → List ℕ → ℕ → Bool
positions_in Whole shape hashes p =
    positions_of_all (64 * words_of shape) (hashes_of shape) hashes p
positions_in Lines shape hashes p =
    positions_in_lines (words_of shape / 8) (hashes_of shape) hashes p

-- a filter has this shape, and exactly the positions of these hashes are set
pub record IsFilled (shape : Shape) (hashes : List ℕ) (f : AnyFilter) : Type 0 where
  pub words : length (parts_of f).words ≡ words_of shape
  pub num_hashes : (parts_of f).hashes ≡ hashes_of shape
  pub bits : (p : ℕ) → content (parts_of f).words p
      ≡ positions_in (layout_of f) shape hashes p

-- exactly the bits of these keys are set in a filter of this shape
abbrev pub IsSummaryOf : Shape → List (List ℕ) → AnyFilter → Type 0
IsSummaryOf shape keys f = IsFilled shape (map (hash_in f) keys) f

-- each filter is the summary of its part of the keys
abbrev pub AreSummariesOf : Shape → List (List (List ℕ)) → List AnyFilter → Type 0
AreSummariesOf shape parts filters = AllZip (IsSummaryOf shape) parts filters

-- the keys of all parts
abbrev pub joined : List (List (List ℕ)) → List (List ℕ)
joined parts = flat_map (λ keys. keys) parts

-- two lists have the same keys, in whatever order and number
abbrev pub HaveSameKeys : List (List ℕ) → List (List ℕ) → Type 0
HaveSameKeys keys others = (key : List ℕ) → Contains keys key ↔ Contains others key

-- filters of equal keys hash alike
abbrev pub HaveSameKey : AnyFilter → AnyFilter → Type 0
HaveSameKey f g = key_of (parts_of f).hasher ≡ key_of (parts_of g).hasher

-- a bit is set that is set in one of these filters, which all have the same kind, shape and key
pub record IsUnionOf (filters : List AnyFilter) (made : AnyFilter) : Type 0 where
  pub bits : (p : ℕ) → content (parts_of made).words p
      ≡ list_any (λ f. content (parts_of f).words p) filters
  pub kind : All (HaveSameKind made) filters
  pub shape : All (HaveOneShape made) filters
  pub key : All (HaveSameKey made) filters

-- the theorem of shards: where these filters are summaries of parts of the keys, their union is the
-- summary of all keys, equals every filter of their kind and the same keys, however those were
-- split, and contains each key of each part
pub record UnitesShards (filters : List AnyFilter) (made : AnyFilter) : Type 0 where
  pub union : IsUnionOf filters made
  pub summary : (shape : Shape) (parts : List (List (List ℕ))) → AreSummariesOf shape parts filters
      → IsSummaryOf shape (joined parts) made
  pub same : (shape : Shape) (parts : List (List (List ℕ))) (keys : List (List ℕ))
      (whole : AnyFilter) → AreSummariesOf shape parts filters → IsSummaryOf shape keys whole
      → AreWords (parts_of whole).words → HaveSameKind whole made → HaveSameKey whole made
      → HaveSameKeys (joined parts) keys
      → ((parts_of made).words ≡ (parts_of whole).words)
      × ((parts_of made).hashes ≡ (parts_of whole).hashes)
  pub found : (shape : Shape) (parts : List (List (List ℕ))) (key : List ℕ)
      → AreSummariesOf shape parts filters → Contains (joined parts) key
      → has_hash made (hash_in made key) ≡ true
