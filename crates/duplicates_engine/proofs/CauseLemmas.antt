-- Why a run ended, from the call that failed on.
use Rattle.std.proofs.Common.{◌≤◌, ℕ, List, [], ◌∷◌, ◌++◌, length, Option, None, Some, refl}
use Rattle.duplicates_engine.proofs.Common.{IfSome, ErrorKind, Ends, Fault, TooLong, Memory, Full, Open, Input, Output, IsOfSystem, IsOfWriter, AreFirstRead}
use Rattle.bloom_growing.specs.declared.growing.error.GrowingError.{GrowingError}
use Rattle.duplicates_engine.specs.Causes.{FailsToOpen, FailsBehind, IsOfStep, AreOfFirst, RefusesLine, IsCaused}

-- an open that failed is no long line
pub opening-system : {I : Type 0} (fails : I → I → ErrorKind → Type 0) (old new : I)
    (fault : Fault) → FailsToOpen fails old new fault → IsOfSystem fault
opening-system fails old new Memory is = tt
opening-system fails old new (Open kind) is = tt
opening-system fails old new other is = absurd is.told

-- a fault before the next line is no long line
pub step-system : (opens : Fault → Type 0) (fault : Fault) → IsOfStep opens fault
    → IsOfSystem fault
step-system opens (TooLong number) is = absurd is
step-system opens Full is = absurd is
step-system opens other is = tt

-- nor is the refusal of a line
pub refusal-system : {V : Type 0} (refuses : V → List ℕ → GrowingError → Type 0) (sieve : V)
    (line : List ℕ) (fault : Fault) → RefusesLine refuses sieve line fault → IsOfSystem fault
refusal-system refuses sieve line Memory is = tt
refusal-system refuses sieve line Full is = tt
refusal-system refuses sieve line other is = absurd is.told

module _ {V I : Type 0} (refuses : V → List ℕ → GrowingError → Type 0)
    (fails : I → I → ErrorKind → Type 0) (end longest : ℕ) (come : Option (List (List ℕ)))
    (sieve : V) where
  -- before any line an open may fail
  pub caused-first : (old new : I) (fault : Fault) → FailsToOpen fails old new fault
      → IsCaused refuses fails end longest come [] sieve new fault
  caused-first old new Memory is = tt
  caused-first old new (Open kind) is = record { old = old; opening = is; behind = none come }
    where
      none : (come : Option (List (List ℕ))) → IfSome come (λ inputs. AreOfFirst end inputs [])
      none None = tt
      none (Some inputs) = record { done = []; rest = inputs; cut = refl; are_lines = refl }
  caused-first old new other is = absurd is.told

  module _ (lines : List (List ℕ)) where
    -- before the next line, where an open comes only behind an input that has ended
    pub caused-step : (left : Option (List ℕ)) (old new : I) (fault : Fault)
        → IsOfStep (FailsBehind fails left old new) fault
        → ((last : Option (List ℕ)) → Ends left last
        → IfSome come (λ inputs. AreOfFirst end inputs lines))
        → IsCaused refuses fails end longest come lines sieve new fault
    caused-step left old new (TooLong number) is behind = absurd is
    caused-step left old new Full is behind = absurd is
    caused-step left old new (Open kind) is behind =
        record { old = old; opening = is.opening; behind = behind is.last is.ends }
    caused-step left old new (Input kind) is behind = is
    caused-step left old new other is behind = tt

    -- at a line that the sieve refused
    pub caused-line : (inputs : I) (line : List ℕ) (fault : Fault)
        → AreFirstRead end come (lines ++ line ∷ []) → length line ≤ longest
        → RefusesLine refuses sieve line fault
        → IsCaused refuses fails end longest come lines sieve inputs fault
    caused-line inputs line Memory next short is = tt
    caused-line inputs line Full next short is =
        record { line = line; next = next; short = short; refusal = is }
    caused-line inputs line other next short is = absurd is.told

    -- a writer may fail at any line
    pub caused-writer : (inputs : I) (fault : Fault) → IsOfWriter fault
        → IsCaused refuses fails end longest come lines sieve inputs fault
    caused-writer inputs (Output kind) is = tt
    caused-writer inputs other is = absurd is
