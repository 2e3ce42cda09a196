-- The lines of a list of bytes. A byte ends a line, and a last line may lack its end (POSIX has
-- lines with their ends, and calls that last one an incomplete line). The byte is 10, or another
-- that a name with `by` takes first, as the 0 behind each name that `find -print0` writes.
use Rattle.std.specs.Prelude.{◌≡◌, ℕ, ◌==◌, Bool, true, not, ◌&&◌, if◌then◌else◌, List, [], ◌∷◌, ◌++◌}

-- a byte at the front of the first line
abbrev pub onto_first : ℕ → List (List ℕ) → List (List ℕ)
onto_first b [] = (b ∷ []) ∷ []
onto_first b (line ∷ lines) = (b ∷ line) ∷ lines

-- the parts that end with this byte, without it, and a last part that isn't empty
unfoldable pub lines_by : ℕ → List ℕ → List (List ℕ)
lines_by end [] = []
lines_by end (b ∷ bytes) =
    if b == end then [] ∷ lines_by end bytes else onto_first b (lines_by end bytes)

-- whether no byte ends a line
abbrev pub has_no_end_by : ℕ → List ℕ → Bool
has_no_end_by end [] = true
has_no_end_by end (b ∷ bytes) = not (b == end) && has_no_end_by end bytes

-- what comes after these bytes is split into lines of its own
abbrev pub IsEndedBy : ℕ → List ℕ → Type 0
IsEndedBy end bytes =
    (rest : List ℕ) → lines_by end (bytes ++ rest) ≡ lines_by end bytes ++ lines_by end rest

-- the lines that byte 10 ends
abbrev pub lines_of : List ℕ → List (List ℕ)
lines_of bytes = lines_by 10 bytes
