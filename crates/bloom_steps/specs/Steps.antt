-- Word steps. A word step is one operation on one word of a filter, and a call is made of such
-- steps. What a step does is said by a decider: it sets each position, clears it, or leaves it
-- undecided. Which kinds of steps there are is this project's choice; a bit lies where it does in
-- the crate fastbloom 0.17.0.
use Rattle.std.specs.Prelude.{ℕ, ◌/◌, ◌%◌, ◌^◌, Bool, true, false, not, ◌&&◌, List, Some, None, map, ◌==◌, if◌then◌else◌}
use Rattle.bloom_parts.specs.Content.{bit_is_on}
use Rattle.bloom_parts.specs.Deciders.{Decider, decides_nothing, state}
use Rattle.bloom_steps.specs.Vocabulary.{Step, Load, Or, And, Zero, Other, Record, Began, Did}
use Rattle.bloom_steps.specs.declared.steps.vocabulary.Step.TheVariants.{Take}

-- the index of a step's word
abbrev pub word_index : Step → ℕ
word_index (Load i) = i
word_index (Or i mask) = i
word_index (And i mask) = i
word_index (Zero i) = i
word_index (Other i) = i
word_index (Take i) = i

-- the step that sets a position
abbrev pub or_at : ℕ → Step
or_at p = Or (p / 64) (2 ^ (p % 64))

-- the step that reads the word of a position
abbrev pub load_at : ℕ → Step
load_at p = Load (p / 64)

-- what a step decides: only positions of its own word
abbrev pub step_decides : Step → Decider
step_decides (Load i) p = None
step_decides (Or i mask) p = if p / 64 == i && bit_is_on mask p then Some true else None
step_decides (And i mask) p = if p / 64 == i && not (bit_is_on mask p) then Some false else None
step_decides (Zero i) p = if p / 64 == i then Some false else None
step_decides (Other i) p = None
step_decides (Take i) p = if p / 64 == i then Some false else None

-- what a record decides: what its step decides; the beginning of a call decides nothing
abbrev pub record_decides : Record → Decider
record_decides (Began party call) = decides_nothing
record_decides (Did party step found ended) = step_decides step

-- the set after records
abbrev pub after_records : (ℕ → Bool) → List Record → ℕ → Bool
after_records A records = state A (map record_decides records)
