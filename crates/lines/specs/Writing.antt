-- What a writer holds of a text where it fails within it: Some of the bytes, or None where the
-- writer doesn't tell them. These definitions are this project's own.
use Rattle.std.specs.Prelude.{◌≡◌, ℕ, List, ◌++◌, Option}
use Rattle.std.specs.Io.KnownBytes.{Appends}

-- bytes with which a text begins
pub record Begins (text written : List ℕ) : Type 0 where
  pub rest : List ℕ
  pub cut : text ≡ written ++ rest

-- from old to new a beginning of the text was written, perhaps all of it or nothing
pub record AppendsPart (text : List ℕ) (old new : Option (List ℕ)) : Type 0 where
  pub written : List ℕ
  pub appended : Appends old new written
  pub begins : Begins text written
