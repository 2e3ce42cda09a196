-- Courses that were carried out: each step on the words as the one before left them. This project's
-- own.
use Rattle.std.specs.Prelude.{ℕ, ◌+◌, ◌<◌, ◌≡◌, List, [], ◌∷◌, length, take, drop}
use Rattle.bloom_steps.specs.Vocabulary.{Call, End, Record, Began, Did}
use Rattle.bloom_steps.specs.Courses.{Course, records_of, did}
use Rattle.bloom_steps.specs.Memories.{found_in, words_after_step}
use Rattle.bloom_steps.specs.Moments.{IsFinished}
use Rattle.bloom_steps.specs.Scripts.{Taken}
use Rattle.bloom_steps.specs.Steps.{word_index}

-- records were carried out, one after the other: each step found what the words then had, where
-- another filter's word may be any, and wrote what its operation writes
abbrev pub CarriedOut : List ℕ → List Record → List ℕ → Type 0
CarriedOut words [] after = after ≡ words
CarriedOut words (Began party call ∷ rs) after = CarriedOut words rs after
CarriedOut words (Did party step found ended ∷ rs) after = (word_index step < length words)
    × ((given : ℕ) × (found ≡ found_in words given step))
    × CarriedOut (words_after_step words step) rs after

-- the steps of a party after one record and up to another are these
abbrev pub MadeBetween : Course → ℕ → ℕ → ℕ → List Taken → Type 0
MadeBetween run party began last s =
    records_of party (drop (began + 1) (take (last + 1) run.records)) ≡ did party s

-- a course of a filter of some words, where each call has these scripts: its records were carried
-- out, and each finished call made its own steps; what other calls did is left open
pub record IsCourseOf (words : ℕ) (Script : Call → List Taken → Type 0) (run : Course) : Type 0
  where
    pub count : length run.start ≡ words
    pub carried : CarriedOut run.start run.records run.words
    pub calls : (party : ℕ) (call : Call) (began last : ℕ) (ended : End)
        → IsFinished run party call began last ended
        → (s : List Taken) × Script call s × MadeBetween run party began last s
