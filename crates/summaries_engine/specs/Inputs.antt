-- Keys that lie in several inputs, which have names, as files do. A name is its list of bytes, and
-- the byte `end` ends a key. These definitions are this project's own.
use Rattle.std.specs.Prelude.{◌≡◌, ◌⊎◌, ℕ, List, ◌∷◌, ◌++◌, Option, map}
use Rattle.std.specs.List.{AllZip}
use Rattle.bloom_parts.specs.Sip.{sip}
use Rattle.fastbloom.specs.declared.parallel.shape.Shape.{Shape}
use Rattle.lines.specs.Reading.{AreShort, IsReadWholeBy}
use Rattle.summaries_engine.specs.declared.answers.Wanted.{Wanted}
use Rattle.summaries_engine.specs.declared.kinds.AnyFilter.{AnyFilter}
use Rattle.summaries_engine.specs.declared.stop.Stop.{Stop}
use Rattle.summaries_engine.specs.Answers.{WritesWanted}
use Rattle.summaries_engine.specs.Stops.{IsMemory, StopsAnswers, StopsHashing}
use Rattle.summaries_engine.specs.Summaries.{IsSummaryOf, joined}

-- what lies under which names: Some of the bytes, or None where that isn't reported
abbrev pub Lies : Type 1
Lies = List ℕ → Option (List ℕ) → Type 0

-- these are all keys of the input of a name, and none is too long
pub record HasKeys (lies : Lies) (end : ℕ) (name : List ℕ) (keys : List (List ℕ)) : Type 0 where
  pub read : Option (List ℕ)
  pub left : Option (List ℕ)
  pub there : lies name read
  pub whole : IsReadWholeBy end read left keys
  pub short : AreShort 65536 keys

-- each list has all keys of the input whose name has the same index, and there are no others
abbrev pub HaveKeys : Lies → ℕ → List (List ℕ) → List (List (List ℕ)) → Type 0
HaveKeys lies end names parts = AllZip (HasKeys lies end) names parts

-- these are all keys of all inputs, and this was done with them
pub record ReadsInputs (lies : Lies) (end : ℕ) (names : List (List ℕ))
    (Done : List (List ℕ) → Type 0) : Type 0 where
  pub parts : List (List (List ℕ))
  pub keys : HaveKeys lies end names parts
  pub done : Done (joined parts)

-- these are the hashes, under a key, of all keys of all inputs
abbrev pub HashesInputs : Lies → ℕ × ℕ → ℕ → List (List ℕ) → List ℕ → Type 0
HashesInputs lies key end names hashes =
    ReadsInputs lies end names (λ keys. hashes ≡ map (sip key.0 key.1) keys)

-- all keys of all inputs were asked for, and those that are wanted were written
abbrev pub AnswersInputs : Lies → AnyFilter → Wanted → ℕ → List (List ℕ) → Option (List ℕ)
    → Option (List ℕ) → Type 0
AnswersInputs lies f wanted end names from to =
    ReadsInputs lies end names (WritesWanted f wanted end from to)

-- exactly the bits of all keys of all inputs are set in a filter of this shape
abbrev pub SummarizesInputs : Lies → ℕ → List (List ℕ) → Shape → AnyFilter → Type 0
SummarizesInputs lies end names shape f =
    ReadsInputs lies end names (λ keys. IsSummaryOf shape keys f)

-- a run took all keys of the inputs before this name, and `Within` holds of the name and these
pub record StopsAt (lies : Lies) (end : ℕ) (names : List (List ℕ))
    (Within : List ℕ → List (List ℕ) → Type 0) : Type 0 where
  pub before : List (List ℕ)
  pub name : List ℕ
  pub after : List (List ℕ)
  pub are : names ≡ before ++ name ∷ after
  pub within : ReadsInputs lies end before (Within name)

-- an input wasn't had, or hashing stopped within it
abbrev pub StopsHashes : Lies → (List ℕ → Stop → Type 0) → ℕ → List (List ℕ) → Stop → Type 0
StopsHashes lies fails end names stop = StopsAt lies end names (λ name keys. fails name stop
    ⊎ ((read : Option (List ℕ)) × lies name read × StopsHashing end name read stop))

-- there is no filter of all keys: not all were hashed, or memory was refused
abbrev pub StopsBuilding : Lies → (List ℕ → Stop → Type 0) → ℕ → List (List ℕ) → Stop → Type 0
StopsBuilding lies fails end names stop =
    StopsHashes lies fails end names stop ⊎ IsMemory stop

-- an input can't be had, and the replies for the keys before it are written; or the run stopped
-- within it
abbrev pub StopsAsking : Lies → (List ℕ → Stop → Type 0) → AnyFilter → Wanted → ℕ
    → List (List ℕ) → Option (List ℕ) → Option (List ℕ) → Stop → Type 0
StopsAsking lies fails f wanted end names from to stop = StopsAt lies end names (λ name keys.
    fails name stop × WritesWanted f wanted end from to keys
    ⊎ ((read : Option (List ℕ)) × lies name read
    × StopsAnswers f wanted end name keys read from to stop))
