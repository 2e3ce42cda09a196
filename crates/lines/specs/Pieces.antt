-- What came of moving the bytes of a block to a line that the byte `end` ends.
use Rattle.std.specs.Prelude.{◌≡◌, ℕ, ◌+◌, ◌<◌, ◌≤◌, List, [], ◌∷◌, ◌++◌, length, true}
use Rattle.lines.specs.declared.piece.Piece.{Piece}
use Rattle.lines.specs.declared.piece.Piece.TheVariants.{Ended, All, TooLong}
use Rattle.lines.specs.Lines.{has_no_end_by}

-- what contracts see of a block of bytes: the line among them that was taken last, and the bytes
-- that wait
pub record Held : Type 0 where
  pub line : List ℕ
  pub bytes : List ℕ

-- a line grew by bytes that end no line, and isn't too long
pub record Grows (end longest : ℕ) (line more part : List ℕ) : Type 0 where
  pub joined : more ≡ line ++ part
  pub inside : has_no_end_by end part ≡ true
  pub short : length more ≤ longest

-- a line grew by bytes whose end was taken too
pub record GrowsToEnd (end longest : ℕ) (old new line more : List ℕ) : Type 0 where
  pub part : List ℕ
  pub cut : old ≡ part ++ end ∷ new
  pub grows : Grows end longest line more part

-- a line grew by all the bytes that there are
pub record GrowsByAll (end longest : ℕ) (old new line more : List ℕ) : Type 0 where
  pub none_left : new ≡ []
  pub grows : Grows end longest line more old

-- bytes were taken that would make a line too long
pub record GrowsTooLong (end longest : ℕ) (old new line : List ℕ) : Type 0 where
  pub part : List ℕ
  pub cut : old ≡ part ++ new
  pub inside : has_no_end_by end part ≡ true
  pub long : longest < length line + length part

-- what came of moving waiting bytes to a line
abbrev pub MovesPiece : ℕ → ℕ → List ℕ → List ℕ → List ℕ → List ℕ → Piece → Type 0
MovesPiece end longest old new line more Ended = GrowsToEnd end longest old new line more
MovesPiece end longest old new line more All = GrowsByAll end longest old new line more
MovesPiece end longest old new line more TooLong = GrowsTooLong end longest old new line
