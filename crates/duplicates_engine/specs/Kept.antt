-- Which lines a run wrote, and which it didn't. What a writer holds is Some of the bytes, or None
-- where it doesn't tell.
use Rattle.std.specs.Prelude.{◌≡◌, ℕ, Bool, false, not, ◌&&◌, ◌||◌, if◌then◌else◌, List, [], ◌∷◌, ◌++◌, flat_map, Option, Result, MatchResult}
use Rattle.std.specs.Io.KnownBytes.{Appends}
use Rattle.lines.specs.Reading.{AreShort}
use Rattle.std.specs.declared.io.ErrorKind.{ErrorKind}
use Rattle.duplicates_engine.specs.Causes.{IsCaused}
use Rattle.duplicates_engine.specs.Counts.{Counts}
use Rattle.duplicates_engine.specs.declared.fault.Fault.{Fault}
use Rattle.duplicates_engine.specs.declared.options.Options.{Options}
use Rattle.duplicates_engine.specs.declared.options.Written.{Written}
use Rattle.duplicates_engine.specs.declared.options.Written.TheVariants.{New, HeldBack, Nothing}
use Rattle.duplicates_engine.specs.declared.sieve.Sieve.{Ghosts}
use Rattle.duplicates_engine.specs.declared.tally.Total.{Total}
use Rattle.duplicates_engine.specs.Faults.{IsOfWriter, IsWrittenAt, IsReadAt}
use Rattle.duplicates_engine.specs.Inputs.{AreAllRead}
use Rattle.duplicates_engine.specs.Longer.{is_longer, limit_of}
use Rattle.duplicates_engine.specs.Sieves.{HasSifted}

-- whether a line is written, by whether it is longer than a line may be, and by its reply: a longer
-- one is passed on with the new lines
abbrev pub is_written : Written → Bool → Bool → Bool
is_written New is_longer reply = is_longer || not reply
is_written HeldBack is_longer reply = not is_longer && reply
is_written Nothing is_longer reply = false

-- the same of a line
abbrev pub writes_line : Options → List ℕ → Bool → Bool
writes_line options line reply =
    is_written options.written (is_longer options.longest line) reply

-- the lines that are written, by their replies
abbrev pub chosen : Options → List (List ℕ) → List Bool → List (List ℕ)
chosen options [] replies = []
chosen options (line ∷ lines) [] = []
chosen options (line ∷ lines) (reply ∷ replies) =
    if writes_line options line reply then line ∷ chosen options lines replies
    else chosen options lines replies

-- each line with this byte behind it
abbrev pub lines_text : ℕ → List (List ℕ) → List ℕ
lines_text end lines = flat_map (λ line. line ++ end ∷ []) lines

-- the text of the lines that are written
abbrev pub text_of : ℕ → Options → List (List ℕ) → List Bool → List ℕ
text_of end options lines replies = lines_text end (chosen options lines replies)

-- a whole run: all lines of the inputs were sifted, but for longer ones, and the chosen ones were
-- written
pub record KeepsNew {V : Type 0} (sieve : Ghosts V) (end : ℕ) (options : Options)
    (come left : Option (List (List ℕ))) (old new : V) (from to : Option (List ℕ))
    (total : Total) : Type 0 where
  pub lines : List (List ℕ)
  pub replies : List Bool
  pub sifted : HasSifted sieve.span sieve.recalls sieve.sifts options.longest old new lines replies
  pub text : Appends from to (text_of end options lines replies)
  pub whole : AreAllRead end come left lines
  pub short : AreShort (limit_of options) lines
  pub counts : Counts options.longest lines replies total

-- a run up to a fault: the first lines of the inputs were sifted, and the chosen ones were written,
-- at a fault of the writer as far as it took them
pub record KeepsUntil {V : Type 0} (sieve : Ghosts V) (end : ℕ) (options : Options)
    (come : Option (List (List ℕ))) (old new : V) (from to : Option (List ℕ)) (fault : Fault)
    : Type 0 where
  pub lines : List (List ℕ)
  pub replies : List Bool
  pub sifted : HasSifted sieve.span sieve.recalls sieve.sifts options.longest old new lines replies
  pub written : List ℕ
  pub text : Appends from to written
  pub is_text : IsWrittenAt fault (text_of end options lines replies) written
  pub reached : IsReadAt end (limit_of options) fault come lines
  pub short : AreShort (limit_of options) lines

-- the same, and why the run ended behind those lines
pub record EndsEarly {V I : Type 0} (sieve : Ghosts V) (fails : I → I → ErrorKind → Type 0)
    (end : ℕ) (options : Options) (come : Option (List (List ℕ))) (inputs : I) (old new : V)
    (from to : Option (List ℕ)) (fault : Fault) : Type 0 where
  pub until : KeepsUntil sieve end options come old new from to fault
  pub caused : IsCaused sieve.refuses fails end options.longest come until.lines new inputs fault

-- what one line writes that had this reply
abbrev pub piece : ℕ → Options → List ℕ → Bool → List ℕ
piece end options line reply = if writes_line options line reply then line ++ end ∷ [] else []

-- what came of writing a text: all of it was written, or at a fault of the writer its beginning
pub record Writes (whole : List ℕ) (from to : Option (List ℕ)) (result : Result (Unit {0}) Fault)
    : Type 0 where
  pub written : List ℕ
  pub text : Appends from to written
  pub told : MatchResult result (λ _. written ≡ whole)
      (λ fault. IsOfWriter fault × IsWrittenAt fault whole written)
