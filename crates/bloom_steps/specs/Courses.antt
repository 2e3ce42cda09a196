-- Courses of finished runs: lawful, and following a schedule. The rules are this project's own.
use Rattle.std.specs.Prelude.{ℕ, ◌/◌, ◌^◌, ◌<◌, ◌≡◌, ◌⊎◌, ◌==◌, Bool, true, false, List, [], ◌∷◌, ◌++◌, length, map, Some, slice_get, take}
use Rattle.std.specs.List.{filter}
use Rattle.bloom_parts.specs.Content.{AreWords, bit_is_on, content}
use Rattle.bloom_steps.specs.Vocabulary.{Step, Load, Or, And, Zero, Other, Call, End, Running, Done, Answer, Event, Begin, Go, Record, Began, Did}
use Rattle.bloom_steps.specs.declared.steps.vocabulary.Step.TheVariants.{Take}
use Rattle.bloom_steps.specs.Steps.{after_records}
use Rattle.bloom_steps.specs.Scripts.{Taken, IsScript, IsBeginning}

-- a course, what a run leaves: the words before it, its records in order, and the words after it
pub record Course : Type 0 where
  pub start : List ℕ
  pub records : List Record
  pub words : List ℕ

-- a word of 64 bits that has the bits of word i of a set
pub record IsWordOf (A : ℕ → Bool) (i word : ℕ) : Type 0 where
  pub fits : word < 2 ^ 64
  pub bits : (p : ℕ) → p / 64 ≡ i → bit_is_on word p ≡ A p

-- the word that a step may find in a set: another filter's word may be any of 64 bits
abbrev pub MayFind : (ℕ → Bool) → Step → ℕ → Type 0
MayFind A (Load i) found = IsWordOf A i found
MayFind A (Or i mask) found = IsWordOf A i found
MayFind A (And i mask) found = IsWordOf A i found
MayFind A (Zero i) found = found ≡ 0
MayFind A (Other i) found = found < 2 ^ 64
MayFind A (Take i) found = IsWordOf A i found

-- each step finds the bits that the last deciders before it left
abbrev pub FindsWhatIsThere : (ℕ → Bool) → List Record → Type 0
FindsWhatIsThere A records =
    (m party : ℕ) (step : Step) (found : ℕ) (ended : End)
    → slice_get records m ≡ Some (Did party step found ended)
    → MayFind (after_records A (take m records)) step found

-- the party of a record: a party makes one call after the other, as a thread does
abbrev pub party_of : Record → ℕ
party_of (Began party call) = party
party_of (Did party step found ended) = party

-- the records of one party, in order
unfoldable pub records_of : ℕ → List Record → List Record
records_of party records = filter (λ r. party_of r == party) records

-- the records of a party that made these steps
abbrev pub did : ℕ → List Taken → List Record
did party s = map (λ t. Did party t.step t.found t.ended) s

-- the records of a call of a party: its beginning, and its steps
abbrev pub call_records : ℕ → Call → List Taken → List Record
call_records party call s = Began party call ∷ did party s

-- call after call, each a whole script, the last perhaps a beginning
pub data CallAfterCall (w k party : ℕ) : List Record → Type 0 where
  no_call : CallAfterCall w k party []
  begun_call : (call : Call) (s : List Taken) → IsBeginning w k call s
      → CallAfterCall w k party (call_records party call s)
  whole_call : (call : Call) (s : List Taken) (later : List Record) → IsScript w k call s
      → CallAfterCall w k party later
      → CallAfterCall w k party (call_records party call s ++ later)

-- a lawful course, of k hashes: parties made whole calls, and each step found what was there
pub record IsLawful (k : ℕ) (run : Course) : Type 0 where
  pub finds : FindsWhatIsThere (content run.start) run.records
  pub calls : (party : ℕ) → CallAfterCall (length run.start) k party (records_of party run.records)
  pub count : length run.words ≡ length run.start
  pub bits : (p : ℕ) → content run.words p ≡ after_records (content run.start) run.records p
  pub fit : AreWords run.words

-- whether a record leaves its party's call running
abbrev pub leaves_running : Record → Bool
leaves_running (Began party call) = true
leaves_running (Did party step found Running) = true
leaves_running (Did party step found Done) = false
leaves_running (Did party step found (Answer reply)) = false

-- whether the last of some records leaves a call running
abbrev pub last_leaves_running : List Record → Bool
last_leaves_running [] = false
last_leaves_running (r ∷ []) = leaves_running r
last_leaves_running (r ∷ (s ∷ rest)) = last_leaves_running (s ∷ rest)

-- whether a party runs a call after some records: its newest record leaves one running
abbrev pub runs : ℕ → List Record → Bool
runs party records = last_leaves_running (records_of party records)

-- a party that is one of the run's and runs no call begins one
pub record BeginsCall (parties : ℕ) (before : List Record) (party : ℕ) (call : Call)
    (added : List Record) : Type 0 where
  pub within : party < parties
  pub idle : runs party before ≡ false
  pub same : added ≡ Began party call ∷ []

-- a party that is none of the run's, or that runs a call, begins none
pub record BeginsNoCall (parties : ℕ) (before : List Record) (party : ℕ)
    (added : List Record) : Type 0 where
  pub busy : party < parties → runs party before ≡ true
  pub same : added ≡ []

-- a party that runs a call makes one step: one that reads the other filter finds the word given
pub record TakesStep (before : List Record) (party given : ℕ) (added : List Record) : Type 0 where
  pub running : runs party before ≡ true
  pub step : Step
  pub found : ℕ
  pub ended : End
  pub same : added ≡ Did party step found ended ∷ []
  pub reads : (i : ℕ) → step ≡ Other i → found ≡ given

-- a party that runs no call makes no step
pub record TakesNoStep (before : List Record) (party : ℕ) (added : List Record) : Type 0 where
  pub idle : runs party before ≡ false
  pub same : added ≡ []

-- what an event adds to the records before it
abbrev pub Gives : ℕ → List Record → Event → List Record → Type 0
Gives parties before (Begin party call) added =
    BeginsCall parties before party call added ⊎ BeginsNoCall parties before party added
Gives parties before (Go party given) added =
    TakesStep before party given added ⊎ TakesNoStep before party added

-- the records of events in order, after the records before
pub data FollowsFrom (parties : ℕ) : List Record → List Event → List Record → Type 0 where
  no_event : (before : List Record) → FollowsFrom parties before [] []
  next_event :
      (before : List Record) (event : Event) (events : List Event) (added later : List Record)
      → Gives parties before event added → FollowsFrom parties (before ++ added) events later
      → FollowsFrom parties before (event ∷ events) (added ++ later)

-- a course that follows a schedule, a list of events, from given words
pub record Follows
    (parties : ℕ) (words : List ℕ) (schedule : List Event) (run : Course) : Type 0 where
  pub begins : run.start ≡ words
  pub events : FollowsFrom parties [] schedule run.records

-- at most one course is lawful and follows a given schedule
abbrev pub AtMostOne : Type 0
AtMostOne =
    (parties k : ℕ) (words : List ℕ) (schedule : List Event) (one other : Course)
    → IsLawful k one → Follows parties words schedule one
    → IsLawful k other → Follows parties words schedule other → one ≡ other
