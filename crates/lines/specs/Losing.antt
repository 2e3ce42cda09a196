-- What is lost of a line where reading it fails. What a reader has left is Some of the bytes, or
-- None where it doesn't tell. This project's own.
use Rattle.std.specs.Prelude.{◌≡◌, ℕ, List, true, Option}
use Rattle.std.specs.Io.KnownBytes.{Consumes}
use Rattle.lines.specs.Lines.{has_no_end_by}

-- from old to new bytes of one line were taken, and its end wasn't
pub record LosesPart (end : ℕ) (old new : Option (List ℕ)) : Type 0 where
  pub lost : List ℕ
  pub taken : Consumes old new lost
  pub inside : has_no_end_by end lost ≡ true
