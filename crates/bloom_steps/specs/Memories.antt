-- What a step finds and does over words in memory: the table of steps, this project's choice.
use Rattle.std.specs.Prelude.{◌≡◌, ◌<◌, ℕ, Bool, List, length, map, slice_index, slice_set, bit_and, bit_or}
use Rattle.bloom_parts.specs.Content.{content}
use Rattle.bloom_parts.specs.Deciders.{state}
use Rattle.bloom_steps.specs.Vocabulary.{Step, Load, Or, And, Zero, Other}
use Rattle.bloom_steps.specs.declared.steps.vocabulary.Step.TheVariants.{Take}
use Rattle.bloom_steps.specs.Steps.{word_index, step_decides}
use Rattle.bloom_steps.specs.Scripts.{Taken, Linked}

-- the words of a filter, and those of the other
pub record Memory : Type 0 where
  pub words : List ℕ
  pub other : List ℕ

-- the word that a step finds, where the other filter's word is given
abbrev pub found_in : List ℕ → ℕ → Step → ℕ
found_in words given (Load i) = slice_index words i
found_in words given (Or i mask) = slice_index words i
found_in words given (And i mask) = slice_index words i
found_in words given (Zero i) = 0
found_in words given (Other i) = given
found_in words given (Take i) = slice_index words i

-- the words after a step
abbrev pub words_after_step : List ℕ → Step → List ℕ
words_after_step words (Load i) = words
words_after_step words (Or i mask) = slice_set words i (bit_or (slice_index words i) mask)
words_after_step words (And i mask) = slice_set words i (bit_and (slice_index words i) mask)
words_after_step words (Zero i) = slice_set words i 0
words_after_step words (Other i) = words
words_after_step words (Take i) = slice_set words i 0

-- one step leads from one memory to the other, as the table says
pub record Moves (before : Memory) (step : Step) (found : ℕ) (after : Memory) : Type 0 where
  pub within : word_index step < length before.words
  pub finds : found ≡ found_in before.words (slice_index before.other (word_index step)) step
  pub writes : after.words ≡ words_after_step before.words step
  pub kept : after.other ≡ before.other

-- the set after steps
abbrev pub after_steps : (ℕ → Bool) → List Taken → ℕ → Bool
after_steps A taken = state A (map (λ (t : Taken). step_decides t.step) taken)

-- what steps in memory do, one after the other: the last that decides a position says what it is
pub record Makes (before : Memory) (taken : List Taken) (after : Memory) : Type 0 where
  pub set : (p : ℕ) → content after.words p ≡ after_steps (content before.words) taken p
  pub count : length after.words ≡ length before.words
  pub other_stays : after.other ≡ before.other

-- linked steps in memory make each position what the last that decides it says
abbrev pub MemoryLaw : Type 0
MemoryLaw =
    (before after : Memory)
    (taken : List Taken) → Linked Moves before taken after → Makes before taken after
