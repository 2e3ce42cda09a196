-- The scripts of the calls on a blocked filter that threads share, of which its courses are made
-- (`bloom_steps` Carried), and live calls that were made as such scripts. This project's own.
use Rattle.std.specs.Prelude.{ℕ, ◌*◌, ◌/◌, ◌≡◌, Bool, List, map}
use Rattle.bloom_parts.specs.Made.{SharedWords}
use Rattle.bloom_parts.specs.Places.{positions}
use Rattle.bloom_steps.specs.declared.steps.vocabulary.Call.{Call}
use Rattle.bloom_steps.specs.declared.steps.vocabulary.Call.TheVariants.{Insert, Contains, Clear, Union, Intersect, Take}
use Rattle.bloom_steps.specs.declared.steps.vocabulary.End.TheVariants.{Answer}
use Rattle.bloom_steps.specs.ByWords.{SetsByWords}
use Rattle.bloom_steps.specs.LiveSteps.{IsMade, step_from}
use Rattle.bloom_steps.specs.Scripts.{Taken, IsScript, Last, Linked}
use Rattle.bloom_blocked.specs.Lines.{line_of, inner_of}

-- a step of a part of the words that begins at a word, as a step of all words
abbrev pub taken_from : ℕ → Taken → Taken
taken_from start t =
    record { step = step_from start t.step; found = t.found; ended = t.ended }

-- steps in the line of a hash, which are such steps in eight words
abbrev pub InLine : ℕ → ℕ → (List Taken → Type 0) → List Taken → Type 0
InLine lines hash Is s =
    (inside : List Taken) × Is inside × (s ≡ map (taken_from (8 * line_of lines hash)) inside)

-- a script of a call on a blocked filter of some words, with k hashes: each eight words are a line,
-- and the words of a last part of a line are in none
abbrev pub IsLineScript : ℕ → ℕ → Call → List Taken → Type 0
IsLineScript words k (Insert hash) s =
    InLine (words / 8) hash (SetsByWords (positions 512 k (inner_of hash))) s
IsLineScript words k (Contains hash) s =
    InLine (words / 8) hash (IsScript 8 k (Contains (inner_of hash))) s
IsLineScript words k Clear s = IsScript words k Clear s
IsLineScript words k Union s = IsScript words k Union s
IsLineScript words k Intersect s = IsScript words k Intersect s
IsLineScript words k Take s = IsScript words k Take s

-- a live call on a line was made as a script of a course: each of its steps was made on the vector,
-- from turn to turn, and the last ended with this reply
pub record IsMadeAsScript (vector : SharedWords) (k : ℕ) (call : Call) (reply : Bool) : Type 0
  where
    pub steps : List Taken
    pub script : IsLineScript vector.count k call steps
    pub first : ℕ
    pub last : ℕ
    pub made : Linked (IsMade vector vector) first steps last
    pub ends : Last steps (λ i t. t.ended ≡ Answer reply)
