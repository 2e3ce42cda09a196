-- What reading one line takes, and what a program read that took one line after the other. What a
-- reader has left is Some of the bytes, or None where it doesn't tell. The byte `end` ends a line.
use Rattle.std.specs.Prelude.{◌≡◌, ◌⊎◌, ℕ, ◌+◌, ◌<◌, ◌≤◌, List, [], ◌∷◌, ◌++◌, length, take, drop, slice_index, Bool, true, not, nat_lt, ◌||◌, All, Option, Some, IfSome}
use Rattle.std.specs.Io.KnownBytes.{Consumes, IsAtEnd, prepend_known}
use Rattle.lines.specs.declared.reader.Next.{Next}
use Rattle.lines.specs.declared.reader.Next.TheVariants.{End, Line, TooLong}
use Rattle.lines.specs.Lines.{lines_by, has_no_end_by, IsEndedBy}

-- what contracts see of a reader of lines: the line that it read last, the bytes that were read and
-- wait, whether the end was told, and how long a line may be
pub record Waiting : Type 0 where
  pub line : List ℕ
  pub bytes : List ℕ
  pub ended : Bool
  pub longest : ℕ

-- all that is left: the bytes that wait, and then what the reader has
abbrev pub left_of : Waiting → Option (List ℕ) → Option (List ℕ)
left_of waiting rest = prepend_known waiting.bytes rest

-- where the end was told, the reader has nothing more
abbrev pub KnowsEnd : Bool → Option (List ℕ) → Type 0
KnowsEnd ended rest = ended ≡ true → IsAtEnd rest

-- whether the next line is told without asking the reader: the end was told, more bytes wait than a
-- line may have, or one of them ends a line
abbrev pub is_told_by : ℕ → Bool → ℕ → List ℕ → Bool
is_told_by end ended longest bytes =
    ended || (nat_lt longest (length bytes) || not (has_no_end_by end bytes))

-- the same of a reader of lines
abbrev pub has_next_by : ℕ → Waiting → Bool
has_next_by end waiting = is_told_by end waiting.ended waiting.longest waiting.bytes

-- the first line of these bytes has n bytes, and its end is there too
pub record HasEndAtBy (end : ℕ) (bytes : List ℕ) (n : ℕ) : Type 0 where
  pub within : n < length bytes
  pub ended : slice_index bytes n ≡ end
  pub inside : has_no_end_by end (take n bytes) ≡ true

-- the first line of these bytes, which has n bytes, was taken with its end; it isn't too long, and
-- the rest is what stands behind its end
pub record CutsLineBy (end longest : ℕ) (bytes rest line : List ℕ) (n : ℕ) : Type 0 where
  pub ends : HasEndAtBy end bytes n
  pub short : n ≤ longest
  pub is_line : line ≡ take n bytes
  pub is_rest : rest ≡ drop (n + 1) bytes

-- from old to new one line was taken, with its end or with all that was left
pub record TakesLineBy (end : ℕ) (old new : Option (List ℕ)) (line : List ℕ) : Type 0 where
  pub taken : List ℕ
  pub cut : Consumes old new taken
  pub is_line : lines_by end taken ≡ line ∷ []
  pub last : IsEndedBy end taken ⊎ IsAtEnd new

-- from old to new more bytes of one line were taken than a line may have
pub record TakesLongBy (end longest : ℕ) (old new : Option (List ℕ)) : Type 0 where
  pub taken : List ℕ
  pub cut : Consumes old new taken
  pub inside : has_no_end_by end taken ≡ true
  pub long : longest < length taken

-- nothing is left, and nothing was taken
pub record Ends (old new : Option (List ℕ)) : Type 0 where
  pub nothing : Consumes old new []
  pub end : IsAtEnd new

-- a line was taken that is short enough
abbrev pub TakesShortBy : ℕ → ℕ → Option (List ℕ) → Option (List ℕ) → List ℕ → Type 0
TakesShortBy end longest old new line =
    record { takes : TakesLineBy end old new line; short : length line ≤ longest }

-- each of these lines is short enough
abbrev pub AreShort : ℕ → List (List ℕ) → Type 0
AreShort longest lines = All (λ line. length line ≤ longest) lines

-- what the next line came to
abbrev pub NextLineBy : ℕ → ℕ → Option (List ℕ) → Option (List ℕ) → List ℕ → Next → Type 0
NextLineBy end longest old new line End = Ends old new
NextLineBy end longest old new line Line =
    record { takes : TakesLineBy end old new line; short : length line ≤ longest }
NextLineBy end longest old new line TooLong = TakesLongBy end longest old new

-- these are all lines of the bytes, and the reader is at its end
pub record HasReadAllBy (end : ℕ) (bytes : List ℕ) (left : Option (List ℕ))
    (lines : List (List ℕ)) : Type 0 where
  pub are_lines : lines_by end bytes ≡ lines
  pub none_left : left ≡ Some []

-- these are all lines of a reader that may not tell its bytes, and it is at its end
abbrev pub IsReadWholeBy : ℕ → Option (List ℕ) → Option (List ℕ) → List (List ℕ) → Type 0
IsReadWholeBy end read left lines = IfSome read (λ bytes. HasReadAllBy end bytes left lines)

-- these are the first lines of the bytes
pub record AreFirstBy (end : ℕ) (bytes : List ℕ) (lines : List (List ℕ)) : Type 0 where
  pub later : List (List ℕ)
  pub cut : lines_by end bytes ≡ lines ++ later

-- the lines are the first, for a reader that may not tell its bytes
abbrev pub IsReadFromBy : ℕ → Option (List ℕ) → List (List ℕ) → Type 0
IsReadFromBy end read lines = IfSome read (λ bytes. AreFirstBy end bytes lines)

-- the line after these is longer than a line may be
pub record AreBeforeLongBy (end longest : ℕ) (bytes : List ℕ) (lines : List (List ℕ)) : Type 0
  where
    pub long : List ℕ
    pub later : List (List ℕ)
    pub cut : lines_by end bytes ≡ lines ++ long ∷ later
    pub is_long : longest < length long

-- the line after these is too long, for a reader that may not tell its bytes
abbrev pub IsReadToLongBy : ℕ → ℕ → Option (List ℕ) → List (List ℕ) → Type 0
IsReadToLongBy end longest read lines =
    IfSome read (λ bytes. AreBeforeLongBy end longest bytes lines)
