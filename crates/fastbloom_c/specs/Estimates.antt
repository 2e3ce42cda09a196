-- Estimates as two numbers, since neither an estimate nor a bracket crosses to C.
use Rattle.std.specs.Prelude.{◌≡◌, ℕ, ◌-◌, ◌*◌, ◌^◌, ◌||◌, List, length, unwrap_or}
use Rattle.bloom_parts.specs.Content.{content}
use Rattle.bloom_parts.specs.Counts.{count_on}
use Rattle.bloom_parts.specs.Brackets.{low_of, high_of}
use Rattle.bloom_parts.specs.Estimates.{least_of, most_of}
use Rattle.bloom_parts.specs.declared.math.bracket.Bracket.{Bracket}
use Rattle.bloom_parts.specs.declared.math.estimate.Estimate.{Estimate}

-- how many bits of these words are set
abbrev pub ones_of_words : List ℕ → ℕ
ones_of_words words = count_on (content words) (64 * length words)

-- how many bits are set in either of two lists of words
abbrev pub ones_of_either_words : List ℕ → List ℕ → ℕ
ones_of_either_words words other =
    count_on (λ p. content words p || content other p) (64 * length words)

-- two numbers are the bounds of an estimate of which something holds, and the greatest number of 64
-- bits stands for an upper bound that is missing
pub record TellsBounds (P : Estimate → Type 0) (low high : ℕ) : Type 0 where
  pub estimate : Estimate
  pub holds : P estimate
  pub is_low : low ≡ least_of estimate
  pub is_high : high ≡ unwrap_or (most_of estimate) (2 ^ 64 - 1)

-- two numbers are the ends of a bracket of which something holds
pub record TellsPart (P : Bracket → Type 0) (low high : ℕ) : Type 0 where
  pub part : Bracket
  pub holds : P part
  pub is_low : low ≡ low_of part
  pub is_high : high ≡ high_of part
