-- One call at a time: the calls of a run as a list of commands. Where a union or an intersection is
-- taken as a command, the other filter is the one whose words its steps found.
use Rattle.std.specs.Prelude.{◌≡◌, ℕ, Bool, List, [], ◌∷◌, ◌++◌, Some, slice_get, take, map}
use Rattle.bloom_parts.specs.Content.{content}
use Rattle.bloom_steps.specs.Vocabulary.{Step, Load, Or, And, Zero, Other, Call, Insert, Contains, Clear, Union, Intersect, Record, Began, Did}
use Rattle.bloom_steps.specs.declared.steps.vocabulary.Step.TheVariants as step
use Rattle.bloom_steps.specs.declared.steps.vocabulary.Call.TheVariants.{Take}
use Rattle.bloom_parts.specs.Operations.{Operation, state_after}
use Rattle.bloom_parts.specs.Operations as operation
use Rattle.bloom_parts.specs.Operations.{reply}
use Rattle.bloom_steps.specs.Scripts.{Taken, answer_of}
use Rattle.bloom_steps.specs.Courses.{Course}
use Rattle.bloom_steps.specs.Moments.{bits_of, EveryCallEnded, OneAtATime}

-- a call with the steps that were made of it
pub record MadeCall : Type 0 where
  pub call : Call
  pub taken : List Taken

-- records split at each beginning: the steps ahead of the first, and the calls with their steps
pub record Cut : Type 0 where
  pub ahead : List Taken
  pub calls : List MadeCall

-- the split of records
abbrev pub cut : List Record → Cut
cut [] = record { ahead = []; calls = [] }
cut (Began party call ∷ rs) =
    record { ahead = []; calls = record { call = call; taken = (cut rs).ahead } ∷ (cut rs).calls }
cut (Did party step found ended ∷ rs) =
    let t : Taken = record { step = step; found = found; ended = ended } in
    record { ahead = t ∷ (cut rs).ahead; calls = (cut rs).calls }

-- the word that a step found in the other filter, if it looked there
abbrev pub found_in_other : Step → ℕ → List ℕ
found_in_other (Load i) found = []
found_in_other (Or i mask) found = []
found_in_other (And i mask) found = []
found_in_other (Zero i) found = []
found_in_other (Other i) found = found ∷ []
found_in_other (step.Take i) found = []

-- the other filter's words, as steps found them
abbrev pub other_words : List Taken → List ℕ
other_words [] = []
other_words (t ∷ ts) = found_in_other t.step t.found ++ other_words ts

-- a call taken as a command, where the other filter has this content
abbrev pub command_of : Call → (ℕ → Bool) → Operation
command_of (Insert hash) other = operation.Insert hash
command_of (Contains hash) other = operation.Contains hash
command_of Clear other = operation.Clear
command_of Union other = operation.Union other
command_of Intersect other = operation.Intersect other
command_of Take other = operation.Clear

-- the calls of a run taken as commands, in the order of their beginnings
abbrev pub commands_of : List MadeCall → List Operation
commands_of calls = map (λ (m : MadeCall). command_of m.call (content (other_words m.taken))) calls

-- the set and the replies are those of the commands
pub record ActsAs (k : ℕ) (run : Course) (calls : List MadeCall) : Type 0 where
  pub bits : (p : ℕ) → content run.words p
      ≡ state_after (bits_of run) k (content run.start) (commands_of calls) p
  pub answers : (i : ℕ) (m : MadeCall) → slice_get calls i ≡ Some m → answer_of m.taken
      ≡ reply (bits_of run) k
      (state_after (bits_of run) k (content run.start) (commands_of (take i calls)))
      (command_of m.call (content (other_words m.taken)))

-- one call at a time behaves as the list of commands
abbrev pub ActsAsCommands : ℕ → Course → Type 0
ActsAsCommands k run =
    OneAtATime run.records → EveryCallEnded run.records → ActsAs k run (cut run.records).calls
