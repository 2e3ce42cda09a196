-- What a list of deciders makes of a set of positions. A decider says of each position whether it
-- sets it, clears it, or leaves it; plain commands and the steps of threads on words are deciders
-- alike. The word, and this way to look back through a list, are the project's own.
use Rattle.std.specs.Prelude.{ℕ, Bool, true, false, if◌then◌else◌, List, [], ◌∷◌, Option, Some, None, unwrap_or}
use Rattle.std.specs.Option.{option_or}

-- a decider, by position: Some true sets it, Some false clears it, None leaves it undecided
abbrev pub Decider : Type 0
Decider = ℕ → Option Bool

-- leaves every position undecided
abbrev pub decides_nothing : Decider
decides_nothing p = None

-- sets the positions of a set
abbrev pub makes_on : (ℕ → Bool) → Decider
makes_on A p = if A p then Some true else None

-- clears every position
abbrev pub makes_all_off : Decider
makes_all_off p = Some false

-- clears every position that isn't in a set
abbrev pub makes_off_outside : (ℕ → Bool) → Decider
makes_off_outside A p = if A p then None else Some false

-- what the last decider of a list that decides a position makes it
abbrev pub last_decision : List Decider → ℕ → Option Bool
last_decision [] p = None
last_decision (d ∷ ds) p = option_or (last_decision ds p) (d p)

-- the set after the deciders: a position that none decides is as it was
abbrev pub state : (ℕ → Bool) → List Decider → ℕ → Bool
state A ds p = unwrap_or (last_decision ds p) (A p)
