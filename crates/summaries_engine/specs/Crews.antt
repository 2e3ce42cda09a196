-- Filters that take hashes side by side, each a part of them. This project's own.
use Rattle.std.specs.Prelude.{◌≡◌, ◌<◌, ℕ, Bool, List, [], ◌∷◌, ◌++◌, All, drop, length, take}
use Rattle.std.proofs.Common.{append-nil, subst, sym}
use Rattle.std.specs.List.{list_any}
use Rattle.bloom_parts.specs.Content.{content}
use Rattle.fastbloom.specs.Data.{DefaultFilter}
use Rattle.fastbloom.specs.Fill.{positions_of_all}
use Rattle.fastbloom.specs.Filter.{SameShape, num_bits_of}
use Rattle.fastbloom.specs.Replies.{InsertsAll}

-- each filter in turn inserted as many of the hashes that are left as a part has, or all of them
-- where fewer are left, and then none is left
abbrev pub InsertParts : ℕ → List DefaultFilter → List ℕ → List DefaultFilter → Type 0
InsertParts size [] hashes [] = hashes ≡ []
InsertParts size (old ∷ before) hashes (new ∷ after) =
    InsertsAll old (take size hashes) new × InsertParts size before (drop size hashes) after
InsertParts size before hashes after = ⊥

-- a filter has the shape and the hasher of another
pub record IsLike (first f : DefaultFilter) : Type 0 where
  pub shape : SameShape first f
  pub hasher : f.hasher ≡ first.hasher

-- whether a position is set in one of the filters
abbrev pub one_has : List DefaultFilter → ℕ → Bool
one_has filters p = list_any (λ f. content f.words p) filters

-- there are filters, of the shape and the hasher of the first, and exactly the positions of these
-- hashes are set in one of them or another
pub record HoldTogether (first : DefaultFilter) (hashes : List ℕ) (filters : List DefaultFilter)
    : Type 0 where
  pub some : 0 < length filters
  pub alike : All (IsLike first) filters
  pub bits : (p : ℕ) → one_has filters p
      ≡ positions_of_all (num_bits_of first) first.hashes hashes p

-- whatever hashes the old filters hold together, the new ones hold these besides
abbrev pub HoldMore : List DefaultFilter → List ℕ → List DefaultFilter → Type 0
HoldMore old hashes new = (first : DefaultFilter) (before : List ℕ)
    → HoldTogether first before old → HoldTogether first (before ++ hashes) new

-- no hash was taken
pub holds-none : (filters : List DefaultFilter) → HoldMore filters [] filters
holds-none filters first before held =
    subst (λ l. HoldTogether first l filters) (sym (append-nil before)) held
