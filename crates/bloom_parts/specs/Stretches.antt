-- A stretch of the positions of a hash: `count` of them, from position i on (the project's own
-- word). `positions` and `are_in` are those of the stretch from position 0 on.
use Rattle.std.specs.Prelude.{◌≡◌, ℕ, zero, suc, ◌+◌, ◌*◌, Bool, true, false, ◌||◌, ◌&&◌, ◌==◌, List, length}
use Rattle.bloom_parts.specs.declared.hasher.chain.DoubleHasher.{DoubleHasher}
use Rattle.bloom_parts.specs.Chain.{IsAt}
use Rattle.bloom_parts.specs.Content.{content}
use Rattle.bloom_parts.specs.Places.{place}

-- the set of the positions of a stretch
unfoldable pub positions_from : ℕ → ℕ → ℕ → ℕ → ℕ → Bool
positions_from n i zero hash p = false
positions_from n i (suc count) hash p =
    positions_from n i count hash p || p == place n hash (i + count)

-- whether the positions of a stretch are all in a set
unfoldable pub are_in_from : ℕ → ℕ → ℕ → ℕ → (ℕ → Bool) → Bool
are_in_from n i zero hash A = true
are_in_from n i (suc count) hash A = are_in_from n i count hash A && A (place n hash (i + count))

-- whether the positions of a stretch are all set in words
abbrev pub are_on : List ℕ → ℕ → ℕ → ℕ → Bool
are_on words i count hash = are_in_from (64 * length words) i count hash (content words)

-- from old to new the positions of a stretch were set, and the reply is whether all of them were
-- set before
pub record TurnsOn (i count hash : ℕ) (old new : List ℕ) (reply : Bool) : Type 0 where
  pub answers : reply ≡ are_on old i count hash
  pub bits : (p : ℕ) → content new p
      ≡ (content old p || positions_from (64 * length old) i count hash p)
  pub shape : length new ≡ length old

-- from old to new the chain of a hash moved on by this many positions
abbrev pub Advances : ℕ → DoubleHasher → DoubleHasher → Type 0
Advances count old new = (hash i : ℕ) → IsAt hash i old → IsAt hash (i + count) new

-- from old to new the next positions of a chain's hash were set, and the word is 0 exactly if all
-- of them were set before
abbrev pub TurnsOnNext : ℕ → DoubleHasher → List ℕ → List ℕ → ℕ → Type 0
TurnsOnNext count chain old new was_off =
    (hash i : ℕ) → IsAt hash i chain → TurnsOn i count hash old new (was_off == 0)

-- from old to new the first positions of a hash were set, and the chain stands after them
pub record HasTurnedOn (hash count : ℕ) (old new : List ℕ) (chain : DoubleHasher) (was_off : ℕ)
    : Type 0 where
  pub stands : IsAt hash count chain
  pub turned : TurnsOn 0 count hash old new (was_off == 0)

-- `found` is whether the next positions of a chain's hash are all set
abbrev pub TellsNext : ℕ → DoubleHasher → List ℕ → Bool → Type 0
TellsNext count chain words found =
    (hash i : ℕ) → IsAt hash i chain → found ≡ are_on words i count hash
