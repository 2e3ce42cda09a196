-- What contracts see of a filter that several workers fill, each with one part of the hashes. To
-- fill a filter by parts is this project's own.
use Rattle.std.specs.Prelude.{◌≡◌, ◌↔◌, ℕ, ◌*◌, Bool, true, false, ◌||◌, List, [], ◌∷◌, ◌++◌, length, IsTrue}
use Rattle.std.specs.List.{Contains}
use Rattle.bloom_parts.specs.Content.{content, AreWords}
use Rattle.bloom_parts.specs.Places.{positions}
use Rattle.bloom_plain.specs.Filter.{Filter, Unites, contains, same_filter, anywhere}
use Rattle.bloom_plain.specs.Replies.{InsertsAll}
use Rattle.fastbloom.specs.declared.parallel.shape.Shape.{Shape}

-- the number of words of a shape
abbrev pub words_of : Shape → ℕ
words_of shape = shape.num_words

-- the number of hashes of a shape
abbrev pub hashes_of : Shape → ℕ
hashes_of shape = shape.num_hashes

-- the union of the positions of hashes
abbrev pub positions_of_all : ℕ → ℕ → List ℕ → ℕ → Bool
positions_of_all n k [] p = false
positions_of_all n k (hash ∷ hashes) p = positions n k hash p || positions_of_all n k hashes p

-- a filter has this shape, and exactly the positions of these hashes are set
pub record IsFilledWith {S : Type 0} (shape : Shape) (hashes : List ℕ) (f : Filter S) : Type 0 where
  pub words : length f.words ≡ words_of shape
  pub num_hashes : f.hashes ≡ hashes_of shape
  pub bits : (p : ℕ) → content f.words p
      ≡ positions_of_all (64 * words_of shape) (hashes_of shape) hashes p

-- two lists have the same hashes, in whatever order and number
abbrev pub HaveSameHashes : List ℕ → List ℕ → Type 0
HaveSameHashes hashes others = (hash : ℕ) → Contains hashes hash ↔ Contains others hash

-- p is a position of one of the hashes
pub record IsPositionOfOne (n k : ℕ) (hashes : List ℕ) (p : ℕ) : Type 0 where
  pub hash : ℕ
  pub given : Contains hashes hash
  pub here : positions n k hash p ≡ true

-- `positions_of_all` is the union of the positions of the hashes
abbrev pub UnionOfPositionsLaw : Type 0
UnionOfPositionsLaw = (n k : ℕ) (hashes : List ℕ) (p : ℕ)
    → (positions_of_all n k hashes p ≡ true) ↔ IsPositionOfOne n k hashes p

-- filters of one shape that were filled with the same hashes, however these were split into parts,
-- are equal
abbrev pub AnyCuttingLaw : (S : Type 0) → Type 0
AnyCuttingLaw S = (shape : Shape) (f g : Filter S) (hashes others : List ℕ)
    → AreWords f.words → AreWords g.words
    → IsFilledWith shape hashes f → IsFilledWith shape others g → HaveSameHashes hashes others
    → IsTrue (same_filter f g)

-- inserting hashes one after the other fills a filter with them, besides the hashes that it had
abbrev pub FilledByInsertsLaw : (S : Type 0) → Type 0
FilledByInsertsLaw S = (shape : Shape) (old new : Filter S) (earlier hashes : List ℕ)
    → IsFilledWith shape earlier old → InsertsAll old hashes new
    → IsFilledWith shape (earlier ++ hashes) new

-- the union of two filled filters is filled with the hashes of both
abbrev pub FilledByUnionLaw : (S : Type 0) → Type 0
FilledByUnionLaw S = (shape : Shape) (old other new : Filter S) (hashes others : List ℕ)
    → IsFilledWith shape hashes old → IsFilledWith shape others other → Unites old other new
    → IsFilledWith shape (hashes ++ others) new

-- a filter that was filled with hashes contains each of them
abbrev pub FilledContainsLaw : (S : Type 0) → Type 0
FilledContainsLaw S = (shape : Shape) (f : Filter S) (hashes : List ℕ) (hash : ℕ)
    → IsFilledWith shape hashes f → Contains hashes hash → contains anywhere f hash ≡ true
