-- What a read that fills some room took where it fails. What a reader has left is Some of the
-- bytes, or None where it doesn't tell. This project's own.
use Rattle.std.specs.Prelude.{ℕ, ◌<◌, List, length, Option}
use Rattle.std.specs.Io.KnownBytes.{Consumes}

-- from old to new a reader gave fewer bytes than there was room for
pub record GivesFewer (room : ℕ) (old new : Option (List ℕ)) : Type 0 where
  pub given : List ℕ
  pub taken : Consumes old new given
  pub few : length given < room
