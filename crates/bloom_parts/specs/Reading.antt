-- Reading a vector that threads share, word by word. This project's own.
use Rattle.std.specs.Prelude.{◌≡◌, ℕ, ◌+◌, ◌<◌, ◌≤◌, Option, MatchOption}
use Rattle.bloom_parts.specs.Made.{SharedWords, FoundByLoad}

-- a reading of a vector: the vector, and the index of the word that comes next
pub record Reading : Type 0 where
  pub vector : SharedWords
  pub next : ℕ

-- a word that comes was found by a load of the next word, and none comes where none is left
abbrev pub ReadsNext : Reading → Option ℕ → Reading → Type 0
ReadsNext before word after = (after.vector ≡ before.vector)
    × MatchOption word ((before.vector.count ≤ before.next) × (after.next ≡ before.next))
    (λ found. FoundByLoad before.vector before.next found
    × (before.next < before.vector.count) × (after.next ≡ before.next + 1))
