-- How the fields of a machine, a call under way, stand to the steps made so far, and what a word
-- found changes in them. No steps are stored. A private field of a machine is named here alone:
-- what public clauses say of machines stands in Machines. The machine is this project's own.
use Rattle.std.specs.Prelude.{ℕ, ◌+◌, ◌-◌, ◌*◌, ◌/◌, ◌%◌, ◌<◌, ◌≡◌, ◌↔◌, Bool, true, false, not, ◌&&◌, ◌||◌, ◌==◌, List, length, Option, Some, None, if◌then◌else◌}
use Rattle.bloom_parts.specs.Chain.{IsAt}
use Rattle.bloom_parts.specs.Content.{bit_is_on}
use Rattle.bloom_parts.specs.Places.{place}
use Rattle.bloom_steps.specs.Vocabulary.{Step, Other, Call, End, Running, Done, Answer}
use Rattle.bloom_steps.specs.declared.steps.machine.Machine.{Machine}
use Rattle.bloom_steps.specs.Plans.{Plan, TurnsOn, LooksAt, EachWord, EachPair, most_steps, plan_of}
use Rattle.bloom_steps.specs.Steps.{or_at, load_at}
use Rattle.bloom_steps.specs.Scripts.{Taken, Each, Any, IsScript, AreStepsOf, AllFoundOn, answer_of, last_found}

-- the next step of a machine whose plan goes on
abbrev pub next_step : Plan → Machine → Step
next_step (TurnsOn hash) m = or_at m.place
next_step (LooksAt hash) m = load_at m.place
next_step (EachWord operation) m = operation m.turn
next_step (EachPair operation on) m =
    if m.turn % 2 == 0 then Other (m.turn / 2) else operation (m.turn / 2) m.other

-- the step that a machine asks for
abbrev pub asks : Machine → Option Step
asks m = if m.ended then None else Some (next_step (plan_of m.call) m)

-- the reply of a plan, by whether all its bits were set
abbrev pub answer_by : Plan → Bool → Option Bool
answer_by (TurnsOn hash) all_on = Some all_on
answer_by (LooksAt hash) all_on = Some all_on
answer_by (EachWord operation) all_on = None
answer_by (EachPair operation on) all_on = None

-- what a machine replies
abbrev pub answers : Machine → Option Bool
answers m = if m.ended then answer_by (plan_of m.call) m.all_on else None

-- the end of a call that has a reply, or none
abbrev pub end_by : Option Bool → End
end_by None = Done
end_by (Some reply) = Answer reply

-- how a machine's call stands
abbrev pub end_of : Machine → End
end_of m = if m.ended then end_by (answer_by (plan_of m.call) m.all_on) else Running

-- how many steps are left at most
abbrev pub left : Machine → ℕ
left m = if m.ended then 0 else most_steps m.num_words m.num_hashes (plan_of m.call) - m.turn

-- a plan goes on only while it has no reason to stop
abbrev pub KeepsOn : ℕ → Plan → List Taken → Type 0
KeepsOn w (TurnsOn hash) s = Unit {0}
KeepsOn w (LooksAt hash) s = AllFoundOn w hash s
KeepsOn w (EachWord operation) s = Unit {0}
KeepsOn w (EachPair operation on) s = Unit {0}

-- the steps so far are right, and the plan goes on
pub record GoesOn (w k : ℕ) (plan : Plan) (s : List Taken) : Type 0 where
  pub room : length s < most_steps w k plan
  pub steps : AreStepsOf w plan s
  pub keeps_on : KeepsOn w plan s
  pub running : Each s (λ i t. t.ended ≡ Running)

-- the machine is at position i of a hash
pub record IsAtPlace (w hash i : ℕ) (m : Machine) : Type 0 where
  pub here : m.place ≡ place (64 * w) hash i
  pub chained : IsAt hash (i + 1) m.chain

-- a plan of a hash is at the position of its next step
abbrev pub IsPlaced : ℕ → Plan → Machine → ℕ → Type 0
IsPlaced w (TurnsOn hash) m i = IsAtPlace w hash i m
IsPlaced w (LooksAt hash) m i = IsAtPlace w hash i m
IsPlaced w (EachWord operation) m i = Unit {0}
IsPlaced w (EachPair operation on) m i = Unit {0}

-- what a machine keeps of the words found
abbrev pub Keeps : ℕ → Plan → Machine → List Taken → Type 0
Keeps w (TurnsOn hash) m s =
    (m.all_on ≡ false) ↔ Any s (λ i t. bit_is_on t.found (place (64 * w) hash i) ≡ false)
Keeps w (LooksAt hash) m s = Unit {0}
Keeps w (EachWord operation) m s = Unit {0}
Keeps w (EachPair operation on) m s = m.other ≡ last_found s

-- the machine stands where these steps of the call leave it
pub record StandsAt (m : Machine) (w k : ℕ) (of : Call) (s : List Taken) : Type 0 where
  pub is_call : m.call ≡ of
  pub words : m.num_words ≡ w
  pub hashes : m.num_hashes ≡ k
  pub turns : m.turn ≡ length s
  pub placed : IsPlaced w (plan_of of) m (length s)
  pub keeps : Keeps w (plan_of of) m s
  pub goes_on : m.ended ≡ false → GoesOn w k (plan_of of) s
  pub whole : m.ended ≡ true → IsScript w k of s
  pub said : answer_of s ≡ answers m

-- what a machine keeps of the word that a step found
abbrev pub Learns : Plan → Machine → ℕ → Machine → Type 0
Learns (TurnsOn hash) m found n = n.all_on ≡ (m.all_on && bit_is_on found m.place)
Learns (LooksAt hash) m found n = n.all_on ≡ bit_is_on found m.place
Learns (EachWord operation) m found n = Unit {0}
Learns (EachPair operation on) m found n = n.other ≡ found

-- whether a machine's plan ends with the step that found this word
abbrev pub ends_with : Plan → Machine → ℕ → Bool
ends_with (TurnsOn hash) m found = m.turn + 1 == m.num_hashes
ends_with (LooksAt hash) m found = not (bit_is_on found m.place) || m.turn + 1 == m.num_hashes
ends_with (EachWord operation) m found = m.turn + 1 == m.num_words
ends_with (EachPair operation on) m found = m.turn + 1 == 2 * m.num_words

-- once it has a word found, a machine at position i of a hash goes to position i + 1
abbrev pub GoesToNextPlace : ℕ → Machine → Machine → Type 0
GoesToNextPlace hash m n =
    (w i : ℕ) → m.num_words ≡ w → IsAtPlace w hash i m → IsAtPlace w hash (i + 1) n

-- once it has a word found, a machine with a plan of a hash moves one position on
abbrev pub MovesOn : Plan → Machine → Machine → Type 0
MovesOn (TurnsOn hash) m n = GoesToNextPlace hash m n
MovesOn (LooksAt hash) m n = GoesToNextPlace hash m n
MovesOn (EachWord operation) m n = Unit {0}
MovesOn (EachPair operation on) m n = Unit {0}

-- one word found leads from one machine to the other
pub record Replied (m : Machine) (found : ℕ) (n : Machine) : Type 0 where
  pub same_call : n.call ≡ m.call
  pub same_words : n.num_words ≡ m.num_words
  pub same_hashes : n.num_hashes ≡ m.num_hashes
  pub turned : n.turn ≡ m.turn + 1
  pub learns : Learns (plan_of m.call) m found n
  pub ends : n.ended ≡ ends_with (plan_of m.call) m found
  pub moves_on : MovesOn (plan_of m.call) m n
