-- What every interleaving of word steps gives, that is every order of the steps of calls that
-- overlap. It is said of finished courses, of filters of any kind: `Positions` are those of a hash,
-- and `is_in` is the test of a hash in a set. The theorems are this project's own.
use Rattle.std.specs.Prelude.{ℕ, zero, suc, ◌+◌, ◌/◌, ◌≤◌, ◌<◌, ◌≡◌, ◌↔◌, ◌&&◌, Bool, true, false, not, Some, slice_get, sum_by, take, length, if◌then◌else◌}
use Rattle.bloom_parts.specs.Content.{bit_is_on, content}
use Rattle.bloom_steps.specs.Vocabulary.{Load, Or, And, Zero, Other, Call, Insert, Contains, Clear, Union, Intersect, End, Answer, Record, Began, Did}
use Rattle.bloom_steps.specs.declared.steps.vocabulary.Step.TheVariants as step
use Rattle.bloom_steps.specs.declared.steps.vocabulary.Call.TheVariants.{Take}
use Rattle.bloom_steps.specs.Plans.{goes_by_hash}
use Rattle.bloom_steps.specs.Courses.{Course}
use Rattle.bloom_steps.specs.Moments.{bits_of, moment, IsStepAt, IsFinished, IsInSpan, turns_on, IsUndisturbed, NoneTurnedOff, EveryCall}

-- some step that read the other filter found the position set
pub record IsFoundInOther (run : Course) (p : ℕ) : Type 0 where
  pub m : ℕ
  pub party : ℕ
  pub found : ℕ
  pub ended : End
  pub reads : slice_get run.records m ≡ Some (Did party (Other (p / 64)) found ended)
  pub on : bit_is_on found p ≡ true

-- a step of a party, after one record and up to another, set a position
pub record TurnsOneOn (run : Course) (party began last : ℕ) : Type 0 where
  pub m : ℕ
  pub p : ℕ
  pub ended : End
  pub later : began < m
  pub upto : m ≤ last
  pub own : IsStepAt run.records m party ended
  pub on : turns_on run m p ≡ true

-- an insert replies for its own steps: false exactly if one of them set a position
abbrev pub InsertsTell : Course → Type 0
InsertsTell run =
    (party hash began last : ℕ) (answer : Bool)
    → IsFinished run party (Insert hash) began last (Answer answer)
    → (answer ≡ false) ↔ TurnsOneOn run party began last

-- at a moment of its span a look-up is the subset test if undisturbed; false is right anyway
pub record IsRightAt (Positions : ℕ → ℕ → Type 0) (is_in : ℕ → (ℕ → Bool) → Bool) (run : Course)
    (hash began last m : ℕ) (answer : Bool) : Type 0 where
  pub within : IsInSpan began last m
  pub undisturbed : IsUndisturbed (Positions hash) run began last
      → answer ≡ is_in hash (moment run m)
  pub off : answer ≡ false → is_in hash (moment run m) ≡ false

-- a look-up is right at one moment, that of its last load
abbrev pub ContainsTell : (ℕ → ℕ → Type 0) → (ℕ → (ℕ → Bool) → Bool) → Course → Type 0
ContainsTell Positions is_in run =
    (party hash began last : ℕ) (answer : Bool)
    → IsFinished run party (Contains hash) began last (Answer answer)
    → IsRightAt Positions is_in run hash began last last answer

-- a finished insert is found, where no record since its beginning cleared one of its positions
abbrev pub FindsInserted : (ℕ → ℕ → Type 0) → Course → Type 0
FindsInserted Positions run =
    (hash inserter first done : ℕ) (ended : End)
    → IsFinished run inserter (Insert hash) first done ended
    → (party began last : ℕ) (answer : Bool)
    → IsFinished run party (Contains hash) began last (Answer answer)
    → done < began → NoneTurnedOff (Positions hash) run first last → answer ≡ true

-- how many numbers below a bound pass a test
abbrev pub count_below : ℕ → (ℕ → Bool) → ℕ
count_below zero test = 0
count_below (suc n) test = if test n then count_below n test + 1 else count_below n test

-- how many bits of a mask are clear in a word
unfoldable pub bits_new : ℕ → ℕ → ℕ
bits_new mask word = count_below 64 (λ p. bit_is_on mask p && not (bit_is_on word p))

-- how many bits a step set: those of its mask that it found clear
abbrev pub bits_gained : Record → ℕ
bits_gained (Began party call) = 0
bits_gained (Did party (Load i) found ended) = 0
bits_gained (Did party (Or i mask) found ended) = bits_new mask found
bits_gained (Did party (And i mask) found ended) = 0
bits_gained (Did party (Zero i) found ended) = 0
bits_gained (Did party (Other i) found ended) = 0
bits_gained (Did party (step.Take i) found ended) = 0

-- each position is set once: the steps set as many bits as positions were gained
abbrev pub GainsOnce : Course → Type 0
GainsOnce run = sum_by bits_gained run.records ≡ count_below (bits_of run)
    (λ p. content run.words p && not (content run.start p))

-- each position is set once where each call goes by a hash
abbrev pub CountsGains : Course → Type 0
CountsGains run = EveryCall goes_by_hash run.records → GainsOnce run

-- how many bits of a word are set
unfoldable pub bits_on : ℕ → ℕ
bits_on word = count_below 64 (bit_is_on word)

-- how many bits were set in the word that a take found
abbrev pub bits_taken : Record → ℕ
bits_taken (Began party call) = 0
bits_taken (Did party (Load i) found ended) = 0
bits_taken (Did party (Or i mask) found ended) = 0
bits_taken (Did party (And i mask) found ended) = 0
bits_taken (Did party (Zero i) found ended) = 0
bits_taken (Did party (Other i) found ended) = 0
bits_taken (Did party (step.Take i) found ended) = bits_on found

-- whether a call is an insert, a look-up or a take
abbrev pub adds_or_takes : Call → Bool
adds_or_takes (Insert hash) = true
adds_or_takes (Contains hash) = true
adds_or_takes Clear = false
adds_or_takes Union = false
adds_or_takes Intersect = false
adds_or_takes Take = true

-- up to a moment, the positions of the start and those set since are as many as those that takes
-- found and those that are set at that moment
abbrev pub IsBalanced : Course → ℕ → Type 0
IsBalanced run m =
    count_below (bits_of run) (content run.start) + sum_by bits_gained (take m run.records)
    ≡ sum_by bits_taken (take m run.records) + count_below (bits_of run) (moment run m)

-- taking loses nothing, at any moment and in the end
pub record LosesNothing (run : Course) : Type 0 where
  pub always : (m : ℕ) → m ≤ length run.records → IsBalanced run m
  pub whole : count_below (bits_of run) (content run.start) + sum_by bits_gained run.records
      ≡ sum_by bits_taken run.records + count_below (bits_of run) (content run.words)

-- taking loses nothing where each call is an insert, a look-up or a take
abbrev pub TakesLoseNothing : Course → Type 0
TakesLoseNothing run =
    ((m party : ℕ) (call : Call) → slice_get run.records m ≡ Some (Began party call)
    → adds_or_takes call ≡ true)
    → LosesNothing run
