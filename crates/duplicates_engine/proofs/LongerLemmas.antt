-- Longer lines, and the lines that aren't.
use Rattle.std.proofs.Common.{◌≡◌, ℕ, ◌+◌, Bool, true, false, not, List, ◌∷◌, ◌++◌, length, drop, take, ◌<◌, ◌≤◌, refl, arith}
use Rattle.std.proofs.lemmas.Bool.{lt-ltb, le-ltb}
use Rattle.std.proofs.lemmas.List.{length-drop, length-take}
use Rattle.std.proofs.lemmas.List.Elements.{filter-append}
use Rattle.std.proofs.lemmas.List.Filters.{length-filter_both}
use Rattle.std.proofs.lemmas.Map.Made.{distinct_count-le}
use Rattle.std.specs.Str.{bytes_eq}
use Rattle.duplicates_engine.proofs.Common.{AllLinesLaw, LastLinesLaw, is_longer, short_lines}

-- a line is longer where it has more bytes, and only there
pub longer-is : (longest : ℕ) (line : List ℕ) → longest < length line
    → is_longer longest line ≡ true
longer-is longest line long = lt-ltb longest (length line) long

pub not-longer : (longest : ℕ) (line : List ℕ) → length line ≤ longest
    → is_longer longest line ≡ false
not-longer longest line short = le-ltb longest (length line) short

-- lines that aren't longer, of lines one behind the other
pub short-append : (longest : ℕ) (lines more : List (List ℕ))
    → short_lines longest (lines ++ more) ≡ short_lines longest lines ++ short_lines longest more
short-append longest lines more = filter-append (λ line. not (is_longer longest line)) lines more

pub short-long : (longest : ℕ) (line : List ℕ) (lines : List (List ℕ)) → longest < length line
    → short_lines longest (line ∷ lines) ≡ short_lines longest lines
short-long longest line lines long = rw (longer-is longest line long) refl

pub short-short : (longest : ℕ) (line : List ℕ) (lines : List (List ℕ)) → length line ≤ longest
    → short_lines longest (line ∷ lines) ≡ line ∷ short_lines longest lines
short-short longest line lines short = rw (not-longer longest line short) refl

-- a sieve of no span tells of every line before
pub all-lines : AllLinesLaw
all-lines longest lines place is earlier before = is earlier before tt

-- fewer different lines came between than lines
pub last-lines : LastLinesLaw
last-lines span longest lines place is earlier before near =
    let between : List (List ℕ) = drop (earlier + 1) (take place lines) in
    is earlier before
    (omega (
      arith,
      near,
      before,
      distinct_count-le bytes_eq (short_lines longest between),
      length-filter_both (λ line. not (is_longer longest line)) (λ line. is_longer longest line)
          (λ line. twice (is_longer longest line)) between,
      length-drop (earlier + 1) (take place lines),
      length-take place lines,
    ))
  where
    twice : (b : Bool) → b ≡ not (not b)
    twice true = refl
    twice false = refl
