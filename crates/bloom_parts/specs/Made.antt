-- Facts of the steps of threads on a vector that they share: that a step was made on a word, what
-- it found there, in which turn it was made, and the words that the vector began with. Nothing
-- outside this file unfolds them, so a proof has such a fact only where the step itself handed it
-- out. Only the proofs of those steps cite the lemmas that make the facts, as the full check sees.
-- This project's own.
use Rattle.std.specs.Prelude.{◌≡◌, ℕ, ◌<◌, ◌^◌, List, length}

-- a vector that threads share: a name that tells it from others, and how many words it has
pub record SharedWords : Type 0 where
  pub name : ℕ
  pub count : ℕ

-- word i is one of the vector's, and the number is a word of 64 bits
abbrev pub IsOnWord : SharedWords → ℕ → ℕ → Type 0
IsOnWord vector i word = (i < vector.count) × (word < 2 ^ 64)

-- the vector began with these words
pub BeganWith : (vector : SharedWords) (words : List ℕ) → Type 0
BeganWith vector words = vector.count ≡ length words

-- a load of word i of the vector found this
pub FoundByLoad : (vector : SharedWords) (i found : ℕ) → Type 0
FoundByLoad vector i found = IsOnWord vector i found

-- an `|` of a mask into word i of the vector found this
pub FoundByOr : (vector : SharedWords) (i mask found : ℕ) → Type 0
FoundByOr vector i mask found = IsOnWord vector i found

-- an `&` of a mask into word i of the vector found this
pub FoundByAnd : (vector : SharedWords) (i mask found : ℕ) → Type 0
FoundByAnd vector i mask found = IsOnWord vector i found

-- word i of the vector was made 0
pub MadeZero : (vector : SharedWords) (i : ℕ) → Type 0
MadeZero vector i = i < vector.count

-- word i of the vector was made 0, and this was there
pub FoundBySwap : (vector : SharedWords) (i found : ℕ) → Type 0
FoundBySwap vector i found = IsOnWord vector i found

-- the step of this fact led from one turn to the other. Turns are names that no clause fixes, so no
-- proof shows that two of them are one, and where steps lead from turn to turn each is a step of
-- its own, made after the one before it
pub InTurn : (fact : Type 0) (before after : ℕ) → Type 0
InTurn fact before after = fact

-- the fact of a beginning
pub made_by_start : (vector : SharedWords) (words : List ℕ) → vector.count ≡ length words
    → BeganWith vector words
unfolding BeganWith
made_by_start vector words count = count

-- the fact of a load
pub made_by_load : (vector : SharedWords) (i found : ℕ) → IsOnWord vector i found
    → FoundByLoad vector i found
unfolding FoundByLoad
made_by_load vector i found on = on

-- the fact of an `|`
pub made_by_or : (vector : SharedWords) (i mask found : ℕ) → IsOnWord vector i found
    → FoundByOr vector i mask found
unfolding FoundByOr
made_by_or vector i mask found on = on

-- the fact of an `&`
pub made_by_and : (vector : SharedWords) (i mask found : ℕ) → IsOnWord vector i found
    → FoundByAnd vector i mask found
unfolding FoundByAnd
made_by_and vector i mask found on = on

-- the fact of a store of zero
pub made_by_zero : (vector : SharedWords) (i : ℕ) → i < vector.count → MadeZero vector i
unfolding MadeZero
made_by_zero vector i within = within

-- the fact of a swap with zero
pub made_by_swap : (vector : SharedWords) (i found : ℕ) → IsOnWord vector i found
    → FoundBySwap vector i found
unfolding FoundBySwap
made_by_swap vector i found on = on

-- the fact of a step in its turn
pub made_by_turn : {fact : Type 0} (before after : ℕ) → fact → InTurn fact before after
unfolding InTurn
made_by_turn before after made = made

-- a step in its turn was made
pub made-in_turn : {fact : Type 0} (before after : ℕ) → InTurn fact before after → fact
unfolding InTurn
made-in_turn before after made = made
