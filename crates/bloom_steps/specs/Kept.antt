-- The words that a store keeps while steps are made: those that they take out, each at its index.
-- This project's own.
use Rattle.std.specs.Prelude.{◌≡◌, ℕ, List, slice_set}
use Rattle.std.specs.Borrow.{MutBor}
use Rattle.bloom_steps.specs.Vocabulary.{Step, Load, Or, And, Zero, Other}
use Rattle.bloom_steps.specs.declared.steps.vocabulary.Step.TheVariants.{Take}
use Rattle.bloom_steps.specs.LiveSteps.{MakesStepInSpan, Span}

-- the words kept after a step: where it takes a word out, that word at its index
abbrev pub kept_after : List ℕ → Step → ℕ → List ℕ
kept_after kept (Load i) found = kept
kept_after kept (Or i mask) found = kept
kept_after kept (And i mask) found = kept
kept_after kept (Zero i) found = kept
kept_after kept (Other i) found = kept
kept_after kept (Take i) found = slice_set kept i found

-- a step was made on the words that a store lends, and the store keeps what it took out
abbrev pub KeepsTaken : {S : Type 0} → (S → Span) → (S → MutBor (List ℕ)) → S → Step → ℕ → S
    → Type 0
KeepsTaken words kept before step found after =
    MakesStepInSpan (words before) step found (words after)
    × ((kept after).now ≡ kept_after (kept before).now step found)
    × ((kept after).ghost_name ≡ (kept before).ghost_name)
