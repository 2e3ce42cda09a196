-- What was read and written where a run ended early.
use Rattle.std.specs.Prelude.{◌≡◌, ℕ, List, Option}
use Rattle.duplicates_engine.specs.declared.fault.Fault.{Fault}
use Rattle.duplicates_engine.specs.declared.fault.Fault.TheVariants.{TooLong, Memory, Full, Open, Input, Output}
use Rattle.duplicates_engine.specs.Inputs.{AreFirstRead, AreReadToLong}
use Rattle.lines.specs.Writing.{Begins}

-- the fault of a writer
abbrev pub IsOfWriter : Fault → Type 0
IsOfWriter (TooLong number) = ⊥
IsOfWriter Memory = ⊥
IsOfWriter Full = ⊥
IsOfWriter (Open kind) = ⊥
IsOfWriter (Input kind) = ⊥
IsOfWriter (Output kind) = Unit {0}

-- no fault of a line that is too long
abbrev pub IsOfSystem : Fault → Type 0
IsOfSystem (TooLong number) = ⊥
IsOfSystem Memory = Unit {0}
IsOfSystem Full = Unit {0}
IsOfSystem (Open kind) = Unit {0}
IsOfSystem (Input kind) = Unit {0}
IsOfSystem (Output kind) = Unit {0}

-- all of the text was written, or at a fault of the writer its beginning
abbrev pub IsWrittenAt : Fault → List ℕ → List ℕ → Type 0
IsWrittenAt (TooLong number) text written = written ≡ text
IsWrittenAt Memory text written = written ≡ text
IsWrittenAt Full text written = written ≡ text
IsWrittenAt (Open kind) text written = written ≡ text
IsWrittenAt (Input kind) text written = written ≡ text
IsWrittenAt (Output kind) text written = Begins text written

-- the lines are the first of the inputs, and at a line that is too long those before it
abbrev pub IsReadAt : ℕ → ℕ → Fault → Option (List (List ℕ)) → List (List ℕ) → Type 0
IsReadAt end longest (TooLong number) come lines = AreReadToLong end longest number come lines
IsReadAt end longest Memory come lines = AreFirstRead end come lines
IsReadAt end longest Full come lines = AreFirstRead end come lines
IsReadAt end longest (Open kind) come lines = AreFirstRead end come lines
IsReadAt end longest (Input kind) come lines = AreFirstRead end come lines
IsReadAt end longest (Output kind) come lines = AreFirstRead end come lines
