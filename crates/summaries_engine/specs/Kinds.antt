-- Filters of either kind. A Bloom filter and a blocked one have the same parts: words, a number of
-- hashes and a hasher. The kinds differ in where the positions of a hash lie. This project's own.
use Rattle.std.specs.Prelude.{◌≡◌, ℕ, Bool, ◌&&◌, List, length, nat_lt, slice_index}
use Rattle.bloom_parts.specs.Content.{content}
use Rattle.bloom_files.specs.declared.layout.Layout.{Layout}
use Rattle.bloom_files.specs.declared.layout.Layout.TheVariants.{Whole, Lines}
use Rattle.fastbloom.specs.Blocked.{in_lines}
use Rattle.fastbloom.specs.Data.{DefaultFilter}
use Rattle.fastbloom.specs.Filter.{SameShape, Unites, contains, anywhere}
use Rattle.fastbloom.specs.FilterFiles.{IsFileOf, file_of}
use Rattle.summaries_engine.specs.declared.kinds.AnyFilter.{AnyFilter}
use Rattle.summaries_engine.specs.declared.kinds.AnyFilter.TheVariants.{Classic, Blocked}

-- the parts of a filter, whatever its kind
abbrev pub parts_of : AnyFilter → DefaultFilter
parts_of (Classic f) = f
parts_of (Blocked f) = f

-- the layout of a filter's words
abbrev pub layout_of : AnyFilter → Layout
layout_of (Classic f) = Whole
layout_of (Blocked f) = Lines

-- whether all positions of a hash are set
abbrev pub has_hash : AnyFilter → ℕ → Bool
has_hash (Classic f) hash = contains anywhere f hash
has_hash (Blocked f) hash = contains in_lines f hash

-- bit i is set exactly if there is a hash i, and all of its positions are set
abbrev pub TellsEach : AnyFilter → List ℕ → List ℕ → Type 0
TellsEach f hashes bits = (i : ℕ) → content bits i
    ≡ (nat_lt i (length hashes) && has_hash f (slice_index hashes i))

-- the file of a filter, which is sealed
abbrev pub file_of_kind : AnyFilter → List ℕ
file_of_kind f = file_of (layout_of f) (parts_of f)

-- the bytes are a file of the filter, with the right seal or none
abbrev pub IsFileOfKind : List ℕ → AnyFilter → Type 0
IsFileOfKind bytes f = IsFileOf (layout_of f) bytes (parts_of f)

-- two filters are of one kind
abbrev pub HaveSameKind : AnyFilter → AnyFilter → Type 0
HaveSameKind f g = layout_of f ≡ layout_of g

-- two filters have as many words and as many hashes
abbrev pub HaveOneShape : AnyFilter → AnyFilter → Type 0
HaveOneShape f g = SameShape (parts_of f) (parts_of g)

-- a union took the old filter to the new, which is of the same kind
pub record UnitesParts (old other new : AnyFilter) : Type 0 where
  pub kind : HaveSameKind old new
  pub parts : Unites (parts_of old) (parts_of other) (parts_of new)
