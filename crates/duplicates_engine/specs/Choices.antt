-- Which lines a run writes, in words of lines alone: neither the sieve nor its replies are named.
-- An index is the number of a line among all lines of all inputs, from 0 on.
use Rattle.std.specs.Prelude.{◌≡◌, ◌≢◌, ◌⊎◌, ◌<◌, ◌≤◌, ℕ, ◌+◌, Bool, true, false, List, [], length, get_or, map, filter, Option, None, Some}
use Rattle.std.specs.List.{range_with_len}
use Rattle.std.specs.Io.KnownBytes.{Appends}
use Rattle.lines.specs.Reading.{AreShort}
use Rattle.duplicates_engine.specs.declared.fault.Fault.{Fault}
use Rattle.duplicates_engine.specs.declared.options.Options.{Options}
use Rattle.duplicates_engine.specs.declared.options.Written.TheVariants.{New, HeldBack, Nothing}
use Rattle.duplicates_engine.specs.Faults.{IsWrittenAt, IsReadAt}
use Rattle.duplicates_engine.specs.Inputs.{AreAllRead}
use Rattle.duplicates_engine.specs.Kept.{lines_text}
use Rattle.duplicates_engine.specs.Longer.{limit_of}
use Rattle.duplicates_engine.specs.Sieves.{IsWithin}

-- the lines at the indices of a set, in order
abbrev pub lines_at : (ℕ → Bool) → List (List ℕ) → List (List ℕ)
lines_at A lines =
    map (λ place. get_or lines place []) (filter A (range_with_len 0 (length lines)))

-- the line at this index differs from every line before it, as far back as a sieve tells: from all
-- of them, or from each behind which fewer different ones came than so many
abbrev pub IsNewAt : Option ℕ → ℕ → List (List ℕ) → ℕ → Type 0
IsNewAt span longest lines place = (earlier : ℕ) → earlier < place
    → IsWithin span longest lines earlier place → get_or lines earlier [] ≢ get_or lines place []

-- the line at this index is longer than a line may be
abbrev pub IsLongerAt : ℕ → List (List ℕ) → ℕ → Type 0
IsLongerAt longest lines place = longest < length (get_or lines place [])

-- a line that is new as far back as a sieve of no span tells differs from each before it
abbrev pub AllLinesLaw : Type 0
AllLinesLaw = (longest : ℕ) (lines : List (List ℕ)) (place : ℕ) → IsNewAt None longest lines place
    → (earlier : ℕ) → earlier < place → get_or lines earlier [] ≢ get_or lines place []

-- a line that is new as far back as a sieve tells, of a span, differs from each of so many lines
-- before it
abbrev pub LastLinesLaw : Type 0
LastLinesLaw = (span longest : ℕ) (lines : List (List ℕ)) (place : ℕ)
    → IsNewAt (Some span) longest lines place
    → (earlier : ℕ) → earlier < place → place ≤ earlier + span
    → get_or lines earlier [] ≢ get_or lines place []

-- these are the lines at some indices of all lines. Each of them is new, as far back as a sieve
-- tells, or is longer than a line may be, and each longer one is among them
pub record WritesNew (span : Option ℕ) (longest : ℕ) (lines written : List (List ℕ)) : Type 0 where
  pub places : ℕ → Bool
  pub stand : lines_at places lines ≡ written
  pub new : (place : ℕ) → place < length lines → places place ≡ true
      → IsLongerAt longest lines place ⊎ IsNewAt span longest lines place
  pub longer : (place : ℕ) → place < length lines → IsLongerAt longest lines place
      → places place ≡ true

-- these are the lines at some indices of all lines. Each line at another index, which is left out,
-- is new, as far back as a sieve tells, or is longer than a line may be, and each longer one is
-- left out
pub record LeavesOutNew (span : Option ℕ) (longest : ℕ) (lines written : List (List ℕ))
    : Type 0 where
  pub places : ℕ → Bool
  pub stand : lines_at places lines ≡ written
  pub new : (place : ℕ) → place < length lines → places place ≡ false
      → IsLongerAt longest lines place ⊎ IsNewAt span longest lines place
  pub longer : (place : ℕ) → place < length lines → IsLongerAt longest lines place
      → places place ≡ false

-- a whole run: of all lines of the inputs those that were asked for were written, and nothing else
pub record WritesChoice (span : Option ℕ) (end : ℕ) (options : Options)
    (come left : Option (List (List ℕ))) (from to : Option (List ℕ)) : Type 0 where
  pub lines : List (List ℕ)
  pub chosen : List (List ℕ)
  pub whole : AreAllRead end come left lines
  pub new : options.written ≡ New → WritesNew span options.longest lines chosen
  pub held_back : options.written ≡ HeldBack → LeavesOutNew span options.longest lines chosen
  pub nothing : options.written ≡ Nothing → chosen ≡ []
  pub short : AreShort (limit_of options) lines
  pub text : Appends from to (lines_text end chosen)

-- a run up to a fault: of the first lines of the inputs those that were asked for were written, at
-- a fault of the writer as far as it took them, and nothing else
pub record WritesChoiceUntil (span : Option ℕ) (end : ℕ) (options : Options)
    (come : Option (List (List ℕ))) (from to : Option (List ℕ)) (fault : Fault) : Type 0 where
  pub lines : List (List ℕ)
  pub chosen : List (List ℕ)
  pub reached : IsReadAt end (limit_of options) fault come lines
  pub new : options.written ≡ New → WritesNew span options.longest lines chosen
  pub held_back : options.written ≡ HeldBack → LeavesOutNew span options.longest lines chosen
  pub nothing : options.written ≡ Nothing → chosen ≡ []
  pub short : AreShort (limit_of options) lines
  pub written : List ℕ
  pub text : Appends from to written
  pub is_text : IsWrittenAt fault (lines_text end chosen) written
