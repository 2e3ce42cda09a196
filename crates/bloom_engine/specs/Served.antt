-- What a run over lines did to the filter, the reader and the writer. What a reader has left and
-- what a writer holds is Some of the bytes, or None where it doesn't tell.
use Rattle.std.specs.Prelude.{◌≡◌, ◌⊎◌, Bool, ℕ, ◌+◌, ◌-◌, ◌^◌, ◌<◌, min, List, [], ◌∷◌, ◌++◌, length, map, Option, Some, None, IfSome}
use Rattle.std.specs.Io.KnownBytes.{Appends, Consumes}
use Rattle.bloom_parts.specs.Content.{content}
use Rattle.bloom_plain.specs.Filter.{Filter}
use Rattle.bloom_plain.specs.Replies.{CarriesOut}
use Rattle.bloom_engine.specs.declared.engine.line.Line.{Line}
use Rattle.lines.specs.Lines.{lines_of}
use Rattle.lines.specs.Reading.{IsReadFromBy}
use Rattle.bloom_engine.specs.Lines.{line_of, longest_line, operations}
use Rattle.bloom_engine.specs.Texts.{text_after}

-- these lines' commands were carried out on the filter, with some replies
abbrev pub Applied : {S : Type 0} → Filter S → Filter S → List Line → Type 0
Applied old new lines = (given : List Bool) × CarriesOut old (operations lines) new given

-- these lines' commands were carried out with some replies, and the lines' text was written
pub record Carried {S : Type 0} (old new : Filter S) (from to : Option (List ℕ))
    (lines : List Line) : Type 0 where
  pub given : List Bool
  pub filter : CarriesOut old (operations lines) new given
  pub text : Appends from to
      (text_after (length old.words) old.hashes (content old.words) [] lines given)

-- each line of these bytes is good, and the reader is at its end
pub record AreAllGood (bytes : List ℕ) (left : Option (List ℕ)) (lines : List Line) : Type 0 where
  pub good : map line_of (lines_of bytes) ≡ map Some lines
  pub none_left : left ≡ Some []

-- the reader gave the line `bad` of these bytes to its end, or more of it than a good line has
pub record Reaches (given : List ℕ) (good : List (List ℕ)) (bad : List ℕ) : Type 0 where
  pub seen : List ℕ
  pub later : List (List ℕ)
  pub cut : lines_of given ≡ good ++ seen ∷ later
  pub enough : (seen ≡ bad) ⊎ (longest_line < length seen)

-- the first line that isn't good comes after these good ones, and the reader gave it
pub record IsReadUpTo (bytes : List ℕ) (read left : Option (List ℕ)) (lines : List Line) : Type 0
  where
    pub good : List (List ℕ)
    pub bad : List ℕ
    pub later : List (List ℕ)
    pub cut : lines_of bytes ≡ good ++ bad ∷ later
    pub all_good : map line_of good ≡ map Some lines
    pub is_bad : line_of bad ≡ None
    pub given : List ℕ
    pub gave : Consumes read left given
    pub reached : Reaches given good bad

-- every line was good, and all were carried out
pub record ServedAll {S : Type 0} (read left : Option (List ℕ)) (old new : Filter S)
    (from to : Option (List ℕ)) : Type 0 where
  pub lines : List Line
  pub carried : Carried old new from to lines
  pub whole : IfSome read (λ bytes. AreAllGood bytes left lines)

-- line n is the first that isn't good, and those before it were carried out; n stays at 2^64 - 1
pub record ServedUpTo {S : Type 0} (n : ℕ) (read left : Option (List ℕ)) (old new : Filter S)
    (from to : Option (List ℕ)) : Type 0 where
  pub lines : List Line
  pub carried : Carried old new from to lines
  pub number : n ≡ min (length lines + 1) (2 ^ 64 - 1)
  pub upto : IfSome read (λ bytes. IsReadUpTo bytes read left lines)

-- these are the first lines that the reader had, for one that may not tell its bytes, and each is
-- good
pub record AreFirstGood (read : Option (List ℕ)) (lines : List Line) : Type 0 where
  pub texts : List (List ℕ)
  pub first : IsReadFromBy 10 read texts
  pub good : map line_of texts ≡ map Some lines

-- the first lines were carried out, before a read failed
pub record ServedBefore {S : Type 0} (read : Option (List ℕ)) (old new : Filter S)
    (from to : Option (List ℕ)) : Type 0 where
  pub lines : List Line
  pub carried : Carried old new from to lines
  pub first : AreFirstGood read lines

-- some first lines were carried out on the filter, whatever was written of their text
pub record ServedSome {S : Type 0} (read : Option (List ℕ)) (old new : Filter S) : Type 0 where
  pub lines : List Line
  pub applied : Applied old new lines
  pub first : AreFirstGood read lines
