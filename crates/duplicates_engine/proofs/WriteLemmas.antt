-- What was written of a text at each fault.
use Rattle.std.proofs.Common.{ℕ, ◌≡◌, List, Option, Ok, Err, refl}
use Rattle.duplicates_engine.proofs.Common.{Appends, ErrorKind, Begins-whole, Fault, TooLong, Output, TellsWrite, IsOfSystem, IsOfWriter, IsWrittenAt, IsReadAt, AreFirstRead, Writes}
use Rattle.lines.specs.Writing.{AppendsPart, Begins}

-- at a fault of a writer a beginning was written
pub from-begins : (fault : Fault) (text written : List ℕ) → IsOfWriter fault
    → Begins text written → IsWrittenAt fault text written
from-begins (Output kind) text written is begins = begins
from-begins other text written is begins = absurd is

-- at any fault a beginning was written, perhaps all of the text
pub to-begins : (fault : Fault) (text written : List ℕ) → IsWrittenAt fault text written
    → Begins text written
to-begins (Output kind) text written is = is
to-begins other text written is = Begins-whole text written is

-- where all of the text was written, any fault may come
pub written-all : (fault : Fault) (text : List ℕ) → IsWrittenAt fault text text
written-all (Output kind) text = Begins-whole text text refl
written-all other text = refl

-- a line was written, or at a fault of the writer a part of it
pub writes-part : (whole : List ℕ) (from to : Option (List ℕ)) (fault : Fault) → IsOfWriter fault
    → AppendsPart whole from to → Writes whole from to (Err fault)
writes-part whole from to fault is part = record {
  written = part.written;
  text = part.appended;
  told = (is, from-begins fault whole part.written is part.begins);
}

-- the fault of a writer is no long line
pub writer-system : (fault : Fault) → IsOfWriter fault → IsOfSystem fault
writer-system (Output kind) is = tt
writer-system other is = absurd is

-- at a fault that isn't a long line, the lines are the first ones
pub reached-at : (end longest : ℕ) (fault : Fault) (come : Option (List (List ℕ)))
    (lines : List (List ℕ)) → IsOfSystem fault → AreFirstRead end come lines
    → IsReadAt end longest fault come lines
reached-at end longest (TooLong number) come lines is first = absurd is
reached-at end longest other come lines is first = first

-- what is told of a writer is the fault of one
pub tells-writer : (kind : ErrorKind) (fault : Fault) → TellsWrite kind fault → IsOfWriter fault
tells-writer kind (Output told) is = tt
tells-writer kind other is = absurd is

-- a text was written by what was written of it
pub writes-all : (whole other : List ℕ) (from to : Option (List ℕ)) → Appends from to whole
    → whole ≡ other → Writes other from to (Ok tt)
writes-all whole other from to appended same =
    record { written = whole; text = appended; told = same }
