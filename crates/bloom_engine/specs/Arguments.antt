-- What the words after the program's name ask for. The limits are this project's own.
use Rattle.std.specs.Prelude.{ℕ, ◌&&◌, ◌^◌, nat_lt, nat_le, if◌then◌else◌, List, [], ◌∷◌, Option, Some, None}
use Rattle.bloom_engine.specs.Lines.{number_of}

-- these numbers of words and hashes, if both are numbers within the limits
abbrev pub within_limits : Option ℕ → Option ℕ → Option (ℕ × ℕ)
within_limits (Some words) (Some hashes) =
    if nat_le 1 words && nat_le words (2 ^ 20) && nat_lt hashes (2 ^ 32)
    then Some (words, hashes) else None
within_limits (Some words) None = None
within_limits None hashes = None

-- the numbers of words and hashes that two words are; other than two words ask for none
abbrev pub asked_of : List (List ℕ) → Option (ℕ × ℕ)
asked_of [] = None
asked_of (words ∷ []) = None
asked_of (words ∷ hashes ∷ []) = within_limits (number_of words) (number_of hashes)
asked_of (words ∷ hashes ∷ other ∷ others) = None
