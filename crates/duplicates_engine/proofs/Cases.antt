-- Cases that the facts of this crate share: lines, their replies, and what is asked for.
use Rattle.std.specs.Prelude.{codes, ℕ, Bool, true, false, List, [], ◌∷◌, None, ⊤}
use Rattle.duplicates_engine.proofs.Common.{Fault, Options, Written, Total}

-- three lines, of which the third came before
abbrev pub lines : List (List ℕ)
lines = codes "a" ∷ codes "b" ∷ codes "a" ∷ []

-- replies that call the first two new
abbrev pub replies : List Bool
replies = false ∷ false ∷ true ∷ []

-- replies that call all three new
abbrev pub all_new : List Bool
all_new = false ∷ false ∷ false ∷ []

-- a line and its like
abbrev pub twice : List (List ℕ)
twice = codes "a" ∷ codes "a" ∷ []

-- three lines, of which the second is longer than a byte
abbrev pub long : List (List ℕ)
long = codes "a" ∷ codes "bb" ∷ codes "a" ∷ []

-- these lines are asked for, and a longer line than this ends the run
abbrev pub asked : ℕ → Written → Options
asked longest written =
    record { longest = longest; skips_longer = false; written = written; most = None }

-- these lines are asked for, and a longer line than a byte is passed on
abbrev pub passing : Written → Options
passing written = record { longest = 1; skips_longer = true; written = written; most = None }

-- these counts of lines that were read, held back, and longer
abbrev pub total : ℕ → ℕ → ℕ → Total
total read held longer = record { tally = record { read = read; held = held }; longer = longer }

-- it holds of none of these faults
abbrev pub HoldsOfNone : (Fault → Type 0) → List Fault → Type 0
HoldsOfNone holds [] = ⊤
HoldsOfNone holds (fault ∷ faults) = (holds fault → ⊥) × HoldsOfNone holds faults
