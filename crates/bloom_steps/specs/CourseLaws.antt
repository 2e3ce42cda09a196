-- What every interleaving gives, for filters of any kind: `Positions` are those of a hash, and
-- `is_in` is the test of a hash in a set. It is said of finished courses, whether or not some run
-- made them, and is this project's own.
use Rattle.std.specs.Prelude.{ℕ, ◌+◌, ◌/◌, ◌≤◌, ◌<◌, ◌≡◌, ◌↔◌, ◌⊎◌, Bool, true, false, length, Some, slice_get}
use Rattle.bloom_parts.specs.Content.{bit_is_on, content}
use Rattle.bloom_parts.specs.Places.{IsPosition, are_in}
use Rattle.bloom_steps.specs.declared.steps.vocabulary.Step.TheVariants.{Take}
use Rattle.bloom_steps.specs.Vocabulary.{Call, Insert, End, Began, Did}
use Rattle.bloom_steps.specs.Courses.{Course}
use Rattle.bloom_steps.specs.Interleavings.{ContainsTell, CountsGains, FindsInserted, GainsOnce, InsertsTell, IsFoundInOther, LosesNothing, TakesLoseNothing, adds_or_takes}
use Rattle.bloom_steps.specs.Moments.{EveryCall, EveryCallEnded, IsFinished, IsStepAt, bits_of, moment}
use Rattle.bloom_steps.specs.Plans.{goes_by_hash, plan_of, turns_none_off}
use Rattle.bloom_steps.specs.Sequences.{ActsAsCommands}
use Rattle.bloom_steps.specs.Steps.{after_records}

-- every bit is what the last step that decides it made it
abbrev pub BitsTell : Course → Type 0
BitsTell run = (p : ℕ) → content run.words p ≡ after_records (content run.start) run.records p

-- record m is a step of a finished call of its party, and the call passes a test
pub record IsStepOf (test : Call → Bool) (run : Course) (m party : ℕ) : Type 0 where
  pub call : Call
  pub passes : test call ≡ true
  pub began : ℕ
  pub last : ℕ
  pub ended : End
  pub finished : IsFinished run party call began last ended
  pub later : began < m
  pub upto : m ≤ last

-- each step is one of a finished call that passes a test
abbrev pub EachStepOf : (Call → Bool) → Course → Type 0
EachStepOf test run =
    (m party : ℕ) (ended : End) → IsStepAt run.records m party ended → IsStepOf test run m party

-- some finished insert has the position
pub record HasFinishedInsert (Positions : ℕ → ℕ → Type 0) (run : Course) (p : ℕ) : Type 0 where
  pub party : ℕ
  pub hash : ℕ
  pub began : ℕ
  pub last : ℕ
  pub ended : End
  pub finished : IsFinished run party (Insert hash) began last ended
  pub position : Positions hash p

-- where each step is one of an insert or a look-up, in the end just those positions are set that
-- were set at the start or are of an insert, whatever the order
abbrev pub EndsWithInserts : (ℕ → ℕ → Type 0) → Course → Type 0
EndsWithInserts Positions run =
    EachStepOf (λ call. goes_by_hash (plan_of call)) run
    → (p : ℕ) → (content run.words p ≡ true)
    ↔ ((content run.start p ≡ true) ⊎ HasFinishedInsert Positions run p)

-- where unions come too, so are those that one of their steps found set in the other filter
abbrev pub EndsWithUnions : (ℕ → ℕ → Type 0) → Course → Type 0
EndsWithUnions Positions run =
    EachStepOf (λ call. turns_none_off (plan_of call)) run
    → (p : ℕ) → (content run.words p ≡ true)
    ↔ ((content run.start p ≡ true) ⊎ (HasFinishedInsert Positions run p ⊎ IsFoundInOther run p))

-- at a moment or later, a take found the position set
pub record IsTakenSince (run : Course) (m p : ℕ) : Type 0 where
  pub at : ℕ
  pub since : m ≤ at
  pub party : ℕ
  pub found : ℕ
  pub ended : End
  pub takes : slice_get run.records at ≡ Some (Did party (Take (p / 64)) found ended)
  pub on : bit_is_on found p ≡ true

-- where each step is one of an insert, a look-up or a take, a position that is set at some moment
-- is set in the end, or a take found it since
abbrev pub LosesNoPosition : Course → Type 0
LosesNoPosition run =
    EachStepOf adds_or_takes run
    → (m p : ℕ) → m ≤ length run.records → moment run m p ≡ true
    → (content run.words p ≡ true) ⊎ IsTakenSince run m p

-- a take finds just the positions of its word that are set, and clears them: so it makes up none,
-- and none is taken twice
abbrev pub TakesWhatIsThere : Course → Type 0
TakesWhatIsThere run =
    (m party word found : ℕ) (ended : End)
    → slice_get run.records m ≡ Some (Did party (Take word) found ended)
    → (p : ℕ) → p / 64 ≡ word
    → (bit_is_on found p ≡ moment run m p) × (moment run (m + 1) p ≡ false)

-- what every interleaving gives
pub record CourseTells
    (Positions : ℕ → ℕ → Type 0) (is_in : ℕ → (ℕ → Bool) → Bool) (run : Course) : Type 0 where
  pub bits : BitsTell run
  pub inserts : InsertsTell run
  pub found : FindsInserted Positions run
  pub contains : ContainsTell Positions is_in run
  pub grows : EndsWithInserts Positions run
  pub unites : EndsWithUnions Positions run
  pub gained : EachStepOf (λ call. goes_by_hash (plan_of call)) run → GainsOnce run
  pub kept : LosesNoPosition run
  pub balanced : EachStepOf adds_or_takes run → LosesNothing run
  pub taken : TakesWhatIsThere run

-- some insert of the run has the position
pub record IsInserted (k : ℕ) (run : Course) (p : ℕ) : Type 0 where
  pub m : ℕ
  pub party : ℕ
  pub hash : ℕ
  pub begins : slice_get run.records m ≡ Some (Began party (Insert hash))
  pub position : IsPosition (bits_of run) k hash p

-- growing runs: where no call clears anything, the end does not depend on the order
abbrev pub EndsWithAll : ℕ → Course → Type 0
EndsWithAll k run =
    EveryCall turns_none_off run.records → EveryCallEnded run.records
    → (p : ℕ) → (content run.words p ≡ true)
    ↔ ((content run.start p ≡ true) ⊎ (IsInserted k run p ⊎ IsFoundInOther run p))

-- what a lawful course of a Bloom filter with k hashes gives, also where calls have not ended
pub record LawfulTells (k : ℕ) (run : Course) : Type 0 where
  pub each : CourseTells (IsPosition (bits_of run) k) (are_in (bits_of run) k) run
  pub commands : ActsAsCommands k run
  pub grows : EndsWithAll k run
  pub gained : CountsGains run
  pub taken : TakesLoseNothing run
