-- Moments of a run, the spans of its calls, and what a record sets and clears. Moment m is the set
-- after the first m records; the span of a call goes from just after its beginning to just after
-- its last step. A look-up is undisturbed if nothing of its hash is cleared in its span. All of
-- this is said of the finished course, and is this project's own.
use Rattle.std.specs.Prelude.{ℕ, ◌+◌, ◌*◌, ◌≤◌, ◌<◌, ◌≡◌, ◌≢◌, ◌&&◌, Bool, true, false, not, List, length, Some, slice_get, take}
use Rattle.bloom_parts.specs.Content.{content}
use Rattle.bloom_steps.specs.Vocabulary.{Step, Call, End, Running, Record, Began, Did}
use Rattle.bloom_steps.specs.Plans.{Plan, plan_of}
use Rattle.bloom_steps.specs.Steps.{after_records}
use Rattle.bloom_steps.specs.Courses.{Course, runs}

-- the number of bits, 64 for each word
abbrev pub bits_of : Course → ℕ
bits_of run = 64 * length run.start

-- the set at moment m: after the first m records
abbrev pub moment : Course → ℕ → ℕ → Bool
moment run m = after_records (content run.start) (take m run.records)

-- record m is a step of a party
pub record IsStepAt (records : List Record) (m party : ℕ) (ended : End) : Type 0 where
  pub step : Step
  pub found : ℕ
  pub here : slice_get records m ≡ Some (Did party step found ended)

-- a finished call: its beginning and its last step are these records, and between them it runs on
pub record IsFinished
    (run : Course) (party : ℕ) (call : Call) (began last : ℕ) (ended : End) : Type 0 where
  pub begins : slice_get run.records began ≡ Some (Began party call)
  pub order : began < last
  pub ends : IsStepAt run.records last party ended
  pub over : ended ≢ Running
  pub no_other : (m : ℕ) (other : Call) → began < m → m < last
      → slice_get run.records m ≢ Some (Began party other)
  pub still : (m : ℕ) (e : End) → began < m → m < last → IsStepAt run.records m party e
      → e ≡ Running

-- a moment of its span: from just after its beginning to just after its last step
pub record IsInSpan (began last m : ℕ) : Type 0 where
  pub after : began + 1 ≤ m
  pub upto : m ≤ last + 1

-- whether record m sets a position: it is clear at the moment before, and set at the moment after
abbrev pub turns_on : Course → ℕ → ℕ → Bool
turns_on run m p = not (moment run m p) && moment run (m + 1) p

-- whether record m clears a position
abbrev pub turns_off : Course → ℕ → ℕ → Bool
turns_off run m p = moment run m p && not (moment run (m + 1) p)

-- no record from one to another, of any party, clears one of these positions
abbrev pub NoneTurnedOff : (ℕ → Type 0) → Course → ℕ → ℕ → Type 0
NoneTurnedOff Is run first last =
    (m p : ℕ) → first ≤ m → m ≤ last → Is p → turns_off run m p ≡ false

-- a finished look-up of these positions is undisturbed: no record in its span clears one of them
abbrev pub IsUndisturbed : (ℕ → Type 0) → Course → ℕ → ℕ → Type 0
IsUndisturbed Is run began last = NoneTurnedOff Is run (began + 1) last

-- the plan of each call that begins passes a test
abbrev pub EveryCall : (Plan → Bool) → List Record → Type 0
EveryCall test records =
    (m party : ℕ) (call : Call) → slice_get records m ≡ Some (Began party call)
    → test (plan_of call) ≡ true

-- no party runs a call after the last record
abbrev pub EveryCallEnded : List Record → Type 0
EveryCallEnded records = (party : ℕ) → runs party records ≡ false

-- at each moment at most one party runs a call
abbrev pub OneAtATime : List Record → Type 0
OneAtATime records =
    (m p q : ℕ) → runs p (take m records) ≡ true → runs q (take m records) ≡ true → p ≡ q
