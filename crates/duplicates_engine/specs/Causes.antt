-- Why a run ended early. What a fault tells of the call that failed: kind in, kind out. What an
-- open that fails may do to inputs, and which lines a sieve may refuse, they say for themselves.
use Rattle.std.specs.Prelude.{◌≡◌, ◌≢◌, ◌≤◌, ℕ, List, [], ◌∷◌, ◌++◌, length, Option, IfSome}
use Rattle.std.specs.declared.io.ErrorKind.{ErrorKind}
use Rattle.std.specs.declared.io.ErrorKind.TheVariants.{OutOfMemory}
use Rattle.bloom_parts.specs.declared.error.FilterError.TheVariants as filter
use Rattle.bloom_growing.specs.declared.growing.error.GrowingError.{GrowingError}
use Rattle.bloom_growing.specs.declared.growing.error.GrowingError.TheVariants.{Filter}
use Rattle.duplicates_engine.specs.declared.fault.Fault.{Fault}
use Rattle.duplicates_engine.specs.declared.fault.Fault.TheVariants.{TooLong, Memory, Full, Open, Input, Output}
use Rattle.duplicates_engine.specs.Inputs.{lines_in, AreFirstRead}
use Rattle.lines.specs.Reading.{Ends}

-- what is told of a reader of lines that failed with this kind
abbrev pub TellsRead : ErrorKind → Fault → Type 0
TellsRead kind (TooLong number) = ⊥
TellsRead kind Memory = kind ≡ OutOfMemory
TellsRead kind Full = ⊥
TellsRead kind (Open told) = ⊥
TellsRead kind (Input told) = (told ≡ kind) × (kind ≢ OutOfMemory)
TellsRead kind (Output told) = ⊥

-- what is told of an open that failed with this kind
abbrev pub TellsOpen : ErrorKind → Fault → Type 0
TellsOpen kind (TooLong number) = ⊥
TellsOpen kind Memory = kind ≡ OutOfMemory
TellsOpen kind Full = ⊥
TellsOpen kind (Open told) = (told ≡ kind) × (kind ≢ OutOfMemory)
TellsOpen kind (Input told) = ⊥
TellsOpen kind (Output told) = ⊥

-- what is told of a write or a flush that failed with this kind
abbrev pub TellsWrite : ErrorKind → Fault → Type 0
TellsWrite kind (TooLong number) = ⊥
TellsWrite kind Memory = ⊥
TellsWrite kind Full = ⊥
TellsWrite kind (Open told) = ⊥
TellsWrite kind (Input told) = ⊥
TellsWrite kind (Output told) = told ≡ kind

-- what is told of a sieve that refused a line with this error
abbrev pub TellsRefusal : GrowingError → Fault → Type 0
TellsRefusal error (TooLong number) = ⊥
TellsRefusal error Memory = error ≡ Filter filter.Memory
TellsRefusal error Full = error ≢ Filter filter.Memory
TellsRefusal error (Open told) = ⊥
TellsRefusal error (Input told) = ⊥
TellsRefusal error (Output told) = ⊥

-- a sieve refused a line, and this was told of it
pub record RefusesLine {V : Type 0} (refuses : V → List ℕ → GrowingError → Type 0) (sieve : V)
    (line : List ℕ) (fault : Fault) : Type 0 where
  pub error : GrowingError
  pub refused : refuses sieve line error
  pub told : TellsRefusal error fault

-- an open failed, and this was told of it
pub record FailsToOpen {I : Type 0} (fails : I → I → ErrorKind → Type 0) (old new : I)
    (fault : Fault) : Type 0 where
  pub kind : ErrorKind
  pub failed : fails old new kind
  pub told : TellsOpen kind fault

-- a fault before the next line: of an open where nothing is left of the input before, as `opens`
-- says, or of a read, a write or memory
abbrev pub IsOfStep : (Fault → Type 0) → Fault → Type 0
IsOfStep opens (TooLong number) = ⊥
IsOfStep opens Memory = Unit {0}
IsOfStep opens Full = ⊥
IsOfStep opens (Open kind) = opens (Open kind)
IsOfStep opens (Input kind) = kind ≢ OutOfMemory
IsOfStep opens (Output kind) = Unit {0}

-- an open failed behind an input of which nothing was left
pub record FailsBehind {I : Type 0} (fails : I → I → ErrorKind → Type 0)
    (left : Option (List ℕ)) (old new : I) (fault : Fault) : Type 0 where
  pub last : Option (List ℕ)
  pub ends : Ends left last
  pub opening : FailsToOpen fails old new fault

-- these are all lines of the first inputs
pub record AreOfFirst (end : ℕ) (inputs lines : List (List ℕ)) : Type 0 where
  pub done : List (List ℕ)
  pub rest : List (List ℕ)
  pub cut : inputs ≡ done ++ rest
  pub are_lines : lines_in end done ≡ lines

-- behind all lines of the first inputs an open failed, which left the inputs like this
pub record StopsAtOpen {I : Type 0} (fails : I → I → ErrorKind → Type 0) (end : ℕ)
    (come : Option (List (List ℕ))) (lines : List (List ℕ)) (new : I) (fault : Fault) : Type 0 where
  pub old : I
  pub opening : FailsToOpen fails old new fault
  pub behind : IfSome come (λ inputs. AreOfFirst end inputs lines)

-- the line behind these was refused by a sieve
pub record StopsAtLine {V : Type 0} (refuses : V → List ℕ → GrowingError → Type 0)
    (end longest : ℕ) (come : Option (List (List ℕ))) (lines : List (List ℕ)) (sieve : V)
    (fault : Fault) : Type 0 where
  pub line : List ℕ
  pub next : AreFirstRead end come (lines ++ line ∷ [])
  pub short : length line ≤ longest
  pub refusal : RefusesLine refuses sieve line fault

module _ {V I : Type 0} (refuses : V → List ℕ → GrowingError → Type 0)
    (fails : I → I → ErrorKind → Type 0) where
  -- what a fault tells came after these lines. Memory, a read and a write may fail at any line; no
  -- read is told to fail out of memory
  abbrev pub IsCaused : ℕ → ℕ → Option (List (List ℕ)) → List (List ℕ) → V → I → Fault → Type 0
  IsCaused end longest come lines sieve inputs (TooLong number) = Unit {0}
  IsCaused end longest come lines sieve inputs Memory = Unit {0}
  IsCaused end longest come lines sieve inputs Full =
      StopsAtLine refuses end longest come lines sieve Full
  IsCaused end longest come lines sieve inputs (Open kind) =
      StopsAtOpen fails end come lines inputs (Open kind)
  IsCaused end longest come lines sieve inputs (Input kind) = kind ≢ OutOfMemory
  IsCaused end longest come lines sieve inputs (Output kind) = Unit {0}
