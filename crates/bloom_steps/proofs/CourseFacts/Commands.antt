-- What the theorem on one call at a time says of the worked courses.
use Rattle.std.proofs.Common.{◌∷◌, [], List, Bool, false, refl, arith}
use Rattle.bloom_steps.proofs.Common.{chain, content, are_in, positions, Or, Other, Insert, Union, Running, Done, Answer, ActsAs, ActsAsCommands, MadeCall}
use Rattle.bloom_steps.proofs.StepFacts.Members.{took}
use Rattle.bloom_steps.proofs.CourseFacts.Courses.{in_turn, in_turn_answering}
use Rattle.bloom_steps.proofs.CourseFacts.Lawful.{lawful-in_turn}
use Rattle.bloom_steps.proofs.CourseFacts.Parties.{ended-in_turn, one-in_turn}
use Rattle.bloom_steps.proofs.RunLemmas.Commands.{acts_as_commands}

-- a union and an insert with this answer, each with its steps
abbrev united : Bool → List MadeCall
united answer =
    record {
      call = Union;
      taken = took (Other 0) 5 Running ∷ took (Or 0 5) 0 Done ∷ [];
    }
    ∷ record { call = Insert 0; taken = took (Or 0 1) 5 (Answer answer) ∷ [] } ∷ []

-- with another answer the union and the insert don't act as their commands
another-answer : ActsAs 1 (in_turn_answering false) (united false) → ⊥
unfolding content positions chain are_in
another-answer acts = let answer = acts.answers 1 _ refl in cc

-- a union and then an insert act as their commands, and not where the insert answers false
acts : ActsAsCommands 1 in_turn
    × (ActsAsCommands 1 (in_turn_answering false) → ⊥)
acts = (
  acts_as_commands 1 in_turn lawful-in_turn (omega arith),
  (λ act. another-answer (act (one-in_turn false) (ended-in_turn false))),
)
