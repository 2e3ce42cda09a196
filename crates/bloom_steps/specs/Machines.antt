-- Which step a machine asks for and what it replies, wherever it stands, and where a word found
-- leaves it: all that public clauses say of machines. The machine is this project's own.
use Rattle.std.specs.Prelude.{ℕ, ◌<◌, ◌≡◌, ◌⊎◌, Bool, List, [], ◌∷◌, ◌++◌, Option, Some, None}
use Rattle.bloom_steps.specs.Vocabulary.{Step, Call}
use Rattle.bloom_steps.specs.declared.steps.machine.Machine.{Machine}
use Rattle.bloom_steps.specs.Steps.{word_index}
use Rattle.bloom_steps.specs.Scripts.{Taken, IsScript, IsBeginning, IsNext, answer_of}
use Rattle.bloom_steps.specs.Standing.{StandsAt, asks, end_of}

-- the step that comes next, which every script that begins so goes on with
pub record ComesNext (w k : ℕ) (call : Call) (s : List Taken) (asked : Option Step) : Type 0 where
  pub step : Step
  pub asks_it : asked ≡ Some step
  pub next : IsNext w k call s step
  pub within : word_index step < w

-- what is asked: after a beginning the script's next step, after a whole script nothing
pub record AsksAfter (w k : ℕ) (call : Call) (s : List Taken) (asked : Option Step) : Type 0 where
  pub either : IsBeginning w k call s ⊎ IsScript w k call s
  pub begun : IsBeginning w k call s → ComesNext w k call s asked
  pub over : IsScript w k call s → asked ≡ None

-- the reply: after a beginning none, after a whole script that of the script
pub record AnswersAfter
    (w k : ℕ) (call : Call) (s : List Taken) (answer : Option Bool) : Type 0 where
  pub says : answer ≡ answer_of s
  pub begun : IsBeginning w k call s → answer ≡ None

-- what a machine asks for, wherever it stands
abbrev pub AsksRight : Machine → Option Step → Type 0
AsksRight m asked =
    (w k : ℕ) (call : Call) (s : List Taken) → StandsAt m w k call s → AsksAfter w k call s asked

-- what a machine replies, wherever it stands
abbrev pub AnswersRight : Machine → Option Bool → Type 0
AnswersRight m answer =
    (w k : ℕ) (call : Call) (s : List Taken) → StandsAt m w k call s
    → AnswersAfter w k call s answer

-- once it has the word that its step found, the machine stands one step further on
abbrev pub StandsFurther : Machine → ℕ → Machine → Type 0
StandsFurther m found n =
    (w k : ℕ) (call : Call) (s : List Taken) (step : Step)
    → asks m ≡ Some step → StandsAt m w k call s
    → StandsAt n w k call (s ++ record { step = step; found = found; ended = end_of n } ∷ [])
