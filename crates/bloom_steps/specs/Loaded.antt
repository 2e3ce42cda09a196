-- The words of a vector that threads share, as they were loaded, and how many bits were set in
-- them. In which order they were loaded is left open. This project's own.
use Rattle.std.specs.Prelude.{◌≡◌, ℕ, ◌*◌, ◌<◌, List, length, slice_get, Some}
use Rattle.bloom_parts.specs.Content.{content}
use Rattle.bloom_parts.specs.Counts.{count_on}
use Rattle.bloom_parts.specs.Made.{SharedWords, FoundByLoad}

-- the words of a vector as they were loaded: a load of each index found the word at that index
pub record WereLoaded (vector : SharedWords) (words : List ℕ) : Type 0 where
  pub count : length words ≡ vector.count
  pub each : (i : ℕ) → i < vector.count
      → (found : ℕ) × FoundByLoad vector i found × (slice_get words i ≡ Some found)

-- this many bits were set in the words of a vector as they were loaded
pub record CountsLoaded (vector : SharedWords) (ones : ℕ) : Type 0 where
  pub words : List ℕ
  pub loaded : WereLoaded vector words
  pub counted : ones ≡ count_on (content words) (64 * vector.count)
