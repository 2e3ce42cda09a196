-- Laws of inserts of many hashes into blocked filters. Its other laws are those of every placement
-- (`bloom_plain` Laws). A hash may be any number.
use Rattle.std.specs.Prelude.{◌≡◌, ℕ, Bool, true, List, [], ◌∷◌}
use Rattle.bloom_plain.specs.Filter.{Filter, contains, Inserts}
use Rattle.bloom_plain.specs.Laws.{SameContent}
use Rattle.bloom_blocked.specs.Blocked.{InsertsAllInLines, in_lines}

-- a hash that is contained stays contained under inserts of many hashes
abbrev pub KeptByInsertsInLinesLaw : (S : Type 0) → Type 0
KeptByInsertsInLinesLaw S = (old new : Filter S) (hashes : List ℕ) (hash : ℕ)
    → InsertsAllInLines old hashes new
    → contains in_lines old hash ≡ true → contains in_lines new hash ≡ true

-- from old to new the hashes of a list were inserted by single inserts, one after the other
abbrev pub InsertsOneByOne : {S : Type 0} → Filter S → List ℕ → Filter S → Type 0
InsertsOneByOne old [] new = old ≡ new
InsertsOneByOne {S} old (hash ∷ hashes) new = (mid : Filter S) × (reply : Bool)
    × Inserts in_lines old hash mid reply × InsertsOneByOne mid hashes new

-- inserts of many hashes at once make what inserts of each, one after the other, make
abbrev pub OneByOneLaw : (S : Type 0) → Type 0
OneByOneLaw S = (old one all : Filter S) (hashes : List ℕ) → InsertsOneByOne old hashes one
    → InsertsAllInLines old hashes all → SameContent one all
