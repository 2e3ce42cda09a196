-- Rates of false positives of blocked filters as they are, as counts of draws: a look-up draws one
-- of the lines, and k of its 512 positions, all alike. This project's own.
use Rattle.std.specs.Prelude.{◌≡◌, ℕ, ◌+◌, ◌*◌, ◌^◌, ◌<◌, ◌≤◌, List, length, get_or, take, drop}
use Rattle.bloom_parts.specs.Brackets.{width_of, Holds}
use Rattle.bloom_parts.specs.Content.{content}
use Rattle.bloom_parts.specs.Draws.{sum_below, positives}
use Rattle.bloom_parts.specs.Made.{SharedWords, FoundByLoad}
use Rattle.bloom_parts.specs.declared.math.bracket.Bracket.{Bracket}

-- the eight words of a line
abbrev pub line_words : List ℕ → ℕ → List ℕ
line_words words line = take 8 (drop (8 * line) words)

-- how many of the n * 512 ^ k look-ups in the first n lines find all their positions set
abbrev pub positives_in_lines : (ℕ → List ℕ) → ℕ → ℕ → ℕ
positives_in_lines words n k = sum_below n (λ line. positives 512 k (content (words line)))

-- the bracket of the rate of n lines, which is the part of all look-ups that return true
pub record BoundsLines (words : ℕ → List ℕ) (n k : ℕ) (bracket : Bracket) : Type 0 where
  pub holds : Holds bracket (positives_in_lines words n k) (n * 512 ^ k)
  pub width : width_of bracket ≤ 2 * k + 1

-- the words of a line as they were loaded: a load of each index found the word at that index
pub record LineWasLoaded (vector : SharedWords) (line : ℕ) (words : List ℕ) : Type 0 where
  pub count : length words ≡ 8
  pub each : (i : ℕ) → i < 8 → FoundByLoad vector (8 * line + i) (get_or words i 0)

-- the bracket of the rate of n lines of a vector, by their words as they were loaded
pub record BoundsLoadedLines (vector : SharedWords) (n k : ℕ) (bracket : Bracket) : Type 0 where
  pub words : ℕ → List ℕ
  pub loaded : (line : ℕ) → line < n → LineWasLoaded vector line (words line)
  pub bounds : BoundsLines words n k bracket
