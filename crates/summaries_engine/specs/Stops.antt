-- Why the keys of an input aren't taken to their end, and what is said of it. What an input had
-- is Some of the bytes, or None where it doesn't tell, and the byte `end` ends a key. These
-- definitions are this project's own.
use Rattle.std.specs.Prelude.{◌≡◌, ◌⊎◌, ℕ, ◌-◌, ◌^◌, codes, List, ◌++◌, length, Option, None, Some, ⊤}
use Rattle.anyhow.specs.Error.{IsContextOn, IsMadeOf}
use Rattle.anyhow.specs.declared.error.Error.{Error}
use Rattle.std.specs.declared.io.ErrorKind.{ErrorKind}
use Rattle.std.specs.declared.io.ErrorKind.TheVariants.{OutOfMemory}
use Rattle.lines.specs.Reading.{IsReadToLongBy}
use Rattle.lines.specs.Writing.{AppendsPart}
use Rattle.summaries_engine.specs.declared.answers.Wanted.{Wanted}
use Rattle.summaries_engine.specs.declared.kinds.AnyFilter.{AnyFilter}
use Rattle.summaries_engine.specs.declared.stop.Stop.{Stop}
use Rattle.summaries_engine.specs.declared.stop.Stop.TheVariants.{Memory, Input, Bad, Output}
use Rattle.summaries_engine.specs.Answers.{ReadsFirst, WritesWanted, wanted_text}
use Rattle.summaries_engine.specs.Refusals.{too_long_text}

-- the error says this and has no cause
abbrev pub Says : List ℕ → Error → Type 0
Says text said = IsMadeOf (Some text) said

-- the error says this over one that tells no more
abbrev pub SaysOver : List ℕ → Error → Type 0
SaysOver text said = IsContextOn (IsMadeOf None) (Some text) said

-- memory was out
abbrev pub IsMemory : Stop → Type 0
IsMemory Memory = ⊤
IsMemory stop = ⊥

-- an input wasn't had, or a read failed, and of what is said this holds
abbrev pub IsInputStop : (Error → Type 0) → Stop → Type 0
IsInputStop P (Input said) = P said
IsInputStop P stop = ⊥

-- an input isn't what it should be, and of what is said this holds
abbrev pub IsBad : (Error → Type 0) → Stop → Type 0
IsBad P (Bad said) = P said
IsBad P stop = ⊥

-- a write failed, and of what is said this holds
abbrev pub IsOutput : (Error → Type 0) → Stop → Type 0
IsOutput P (Output said) = P said
IsOutput P stop = ⊥

-- a write failed, and that the keys can't be written is said
abbrev pub IsUnwritten : Stop → Type 0
IsUnwritten stop = IsOutput (SaysOver (codes "the keys can't be written")) stop

-- there is no memory for the text of a filter, or a write of it failed
abbrev pub IsUnput : Stop → Type 0
IsUnput stop = IsMemory stop ⊎ IsOutput (SaysOver (codes "the filter can't be written")) stop

-- a read failed, out of memory or for another reason, and its input is named
abbrev pub IsUnreadable : List ℕ → Stop → Type 0
IsUnreadable name stop =
    IsMemory stop ⊎ IsInputStop (SaysOver (name ++ codes ": it can't be read")) stop

-- what is reported about a read that failed by an error of this kind: exactly that of memory is
-- memory
pub record IsUnreadAs (kind : ErrorKind) (name : List ℕ) (stop : Stop) : Type 0 where
  pub memory : kind ≡ OutOfMemory → IsMemory stop
  pub other : (kind ≡ OutOfMemory → ⊥)
      → IsInputStop (SaysOver (name ++ codes ": it can't be read")) stop

-- behind these keys memory was out, or a read failed, or the next key is too long, or no number is
-- left for it
abbrev pub IsReasonAfter : ℕ → List ℕ → Option (List ℕ) → List (List ℕ) → Stop → Type 0
IsReasonAfter end name read keys stop = IsUnreadable name stop
    ⊎ (IsReadToLongBy end 65536 read keys
    × IsBad (Says (too_long_text name (length keys))) stop)
    ⊎ ((length keys ≡ 2 ^ 64 - 1) × IsBad (Says (name ++ codes ": it has too many keys")) stop)

-- hashing stopped behind these first keys, before the last key
abbrev pub StopsHashing : ℕ → List ℕ → Option (List ℕ) → Stop → Type 0
StopsHashing end name read stop =
    ReadsFirst end read (λ keys. IsReasonAfter end name read keys stop)

-- after earlier keys the run stopped behind these first keys, and the replies for all of them were
-- written; or a write failed within the replies, and what was written is a beginning of their text
abbrev pub StopsAnswers : AnyFilter → Wanted → ℕ → List ℕ → List (List ℕ) → Option (List ℕ)
    → Option (List ℕ) → Option (List ℕ) → Stop → Type 0
StopsAnswers f wanted end name earlier read from to stop = ReadsFirst end read (λ keys.
    WritesWanted f wanted end from to (earlier ++ keys) × IsReasonAfter end name read keys stop
    ⊎ AppendsPart (wanted_text f wanted end (earlier ++ keys)) from to × IsUnwritten stop)
