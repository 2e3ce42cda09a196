-- What reading a file takes of a reader, and why it stops. What a reader has left is Some of the
-- bytes, or None where it doesn't tell.
use Rattle.std.specs.Prelude.{◌≡◌, ◌⊎◌, ℕ, ◌+◌, ◌*◌, ◌<◌, ◌≤◌, List, ◌++◌, length, Option, Some, None, IfSome, ⊤}
use Rattle.std.specs.Io.KnownBytes.{Consumes}
use Rattle.std.specs.declared.io.ErrorKind.{ErrorKind}
use Rattle.bloom_parts.specs.Hashed.{SipState, Takes}
use Rattle.bloom_files.specs.declared.error.FileError.{FileError}
use Rattle.bloom_files.specs.declared.error.FileError.TheVariants.{Cut, TooLong, Memory, Input}
use Rattle.bloom_files.specs.File.{bytes_of}
use Rattle.bloom_files.specs.FileRefusals.{head_refusal, file_size}
use Rattle.lines.specs.Filling.{GivesFewer}

-- a failed read; what came before it is said by `FailsEarly`
abbrev pub IsInput : Option FileError → Type 0
IsInput error = (kind : ErrorKind) × (error ≡ Some (Input kind))

-- from old to new a reader gave words, which came behind others, and a hasher took in their bytes
pub record ReadsWords (old new : Option (List ℕ)) (before after : List ℕ) (from to : SipState)
    : Type 0 where
  pub words : List ℕ
  pub behind : after ≡ before ++ words
  pub taken : Consumes old new (bytes_of words)
  pub hashed : Takes from to (bytes_of words)

-- why this many bytes of words weren't read: fewer are left, where it is known; else memory ran
-- out, or a read failed
abbrev pub StopsWords : ℕ → Option (List ℕ) → FileError → Type 0
StopsWords count known Cut = IfSome known (λ bytes. length bytes < count)
StopsWords count known Memory = ⊤
StopsWords count known (Input kind) = ⊤
StopsWords count known _ = ⊥

-- why a reader isn't at its end: bytes are left, where it is known; else a read failed
abbrev pub StopsEnd : Option (List ℕ) → FileError → Type 0
StopsEnd known TooLong = IfSome known (λ bytes. 0 < length bytes)
StopsEnd known (Input kind) = ⊤
StopsEnd known _ = ⊥

-- bytes that decide no refusal of a file yet: its head isn't whole, or it isn't refused and no byte
-- follows the words of which it tells
abbrev pub IsUndecided : List ℕ → Type 0
IsUndecided bytes =
    (length bytes < 64) ⊎ ((head_refusal bytes ≡ None) × (length bytes ≤ file_size bytes))

-- from old to new a reader gave bytes that decide no refusal yet
pub record GivesUndecided (old new : Option (List ℕ)) : Type 0 where
  pub given : List ℕ
  pub taken : Consumes old new given
  pub undecided : IsUndecided given

-- where the error is a failed read, what was read decides no refusal yet
abbrev pub FailsEarly : Option (List ℕ) → Option (List ℕ) → FileError → Type 0
FailsEarly old new error = (kind : ErrorKind) → error ≡ Input kind → GivesUndecided old new

-- where the error is a failed read, fewer bytes were read than were asked for
abbrev pub FailsWithin : ℕ → Option (List ℕ) → Option (List ℕ) → FileError → Type 0
FailsWithin asked old new error =
    (kind : ErrorKind) → error ≡ Input kind → GivesFewer asked old new

-- from old to new a reader gave some bytes
abbrev pub GivesSome : Option (List ℕ) → Option (List ℕ) → Type 0
GivesSome old new = (given : List ℕ) × Consumes old new given

-- there is room for this many words of eight bytes: for a block, and for at most twice as many as
-- the reader gave
pub record AsksAsGiven (old new : Option (List ℕ)) (capacity : ℕ) : Type 0 where
  pub given : List ℕ
  pub taken : Consumes old new given
  pub room : 8 * capacity ≤ 2 * length given + 4096
