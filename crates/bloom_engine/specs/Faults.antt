-- The exit status of each fault, and which of them a stream gives. In all four programs a number
-- means the same. The numbers are this project's own.
use Rattle.std.specs.Prelude.{ℕ}
use Rattle.bloom_engine.specs.declared.fault.Fault.{Fault}
use Rattle.bloom_engine.specs.declared.fault.Fault.TheVariants.{Usage, Line, Memory, Input, Output}

-- the exit status
abbrev pub status_of : Fault → ℕ
status_of Usage = 2
status_of (Line number) = 2
status_of Memory = 3
status_of Input = 4
status_of Output = 4

-- the fault of a reader or a writer
abbrev pub IsOfStream : Fault → Type 0
IsOfStream Usage = ⊥
IsOfStream (Line number) = ⊥
IsOfStream Memory = ⊥
IsOfStream Input = Unit {0}
IsOfStream Output = Unit {0}
