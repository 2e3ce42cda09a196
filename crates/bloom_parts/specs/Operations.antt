-- What a command to a filter of n bits and k hashes decides, and replies. The other filter of a
-- union or an intersection counts by its content, so that plain commands and the calls that threads
-- make step by step share one text.
use Rattle.std.specs.Prelude.{ℕ, Bool, List, Option, Some, None, map, option_map}
use Rattle.bloom_parts.specs.Places.{positions, are_in}
use Rattle.bloom_parts.specs.Deciders.{Decider, decides_nothing, makes_on, makes_all_off, makes_off_outside, state}

-- a command on a set of positions
pub data Operation : Type 0 where
  Insert : ℕ → Operation
  Contains : ℕ → Operation
  Clear : Operation
  Union : (ℕ → Bool) → Operation
  Intersect : (ℕ → Bool) → Operation

-- what a command decides
abbrev pub decides : ℕ → ℕ → Operation → Decider
decides n k (Insert hash) = makes_on (positions n k hash)
decides n k (Contains hash) = decides_nothing
decides n k Clear = makes_all_off
decides n k (Union other) = makes_on other
decides n k (Intersect other) = makes_off_outside other

-- the set after commands
abbrev pub state_after : ℕ → ℕ → (ℕ → Bool) → List Operation → ℕ → Bool
state_after n k A operations = state A (map (decides n k) operations)

-- the hash that a command asks about
abbrev pub asked_by : Operation → Option ℕ
asked_by (Insert hash) = Some hash
asked_by (Contains hash) = Some hash
asked_by Clear = None
asked_by (Union other) = None
asked_by (Intersect other) = None

-- the reply to a command, if it gives one: whether the positions of its hash are in the set just
-- before
abbrev pub reply : ℕ → ℕ → (ℕ → Bool) → Operation → Option Bool
reply n k A operation = option_map (λ hash. are_in n k hash A) (asked_by operation)
