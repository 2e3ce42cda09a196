-- The plan of a call says how it goes through the words of a filter. A call of a new kind is a new
-- line of `plan_of`, and of what its steps decide. Which plans there are, and which call has which,
-- is this project's choice.
use Rattle.std.specs.Prelude.{ℕ, ◌*◌, Bool, true, false}
use Rattle.bloom_steps.specs.Vocabulary.{Step, Or, And, Zero, Call, Insert, Contains, Clear, Union, Intersect}
use Rattle.bloom_steps.specs.declared.steps.vocabulary.Step.TheVariants as step
use Rattle.bloom_steps.specs.declared.steps.vocabulary.Call.TheVariants.{Take}

-- the plan of a call: it sets the positions of a hash; or looks at them up to the first that is
-- clear; or clears each word by one step; or reads each word of the other filter, and sets bits, or
-- else clears them, by a step with what it read
pub data Plan : Type 0 where
  TurnsOn : ℕ → Plan
  LooksAt : ℕ → Plan
  EachWord : (ℕ → Step) → Plan
  EachPair : (ℕ → ℕ → Step) → Bool → Plan

-- the plan of each call
abbrev pub plan_of : Call → Plan
plan_of (Insert hash) = TurnsOn hash
plan_of (Contains hash) = LooksAt hash
plan_of Clear = EachWord Zero
plan_of Union = EachPair Or true
plan_of Intersect = EachPair And false
plan_of Take = EachWord step.Take

-- the hash of a plan, or 0 where it has none
abbrev pub hash_of : Plan → ℕ
hash_of (TurnsOn hash) = hash
hash_of (LooksAt hash) = hash
hash_of (EachWord operation) = 0
hash_of (EachPair operation on) = 0

-- whether a plan goes by a hash
abbrev pub goes_by_hash : Plan → Bool
goes_by_hash (TurnsOn hash) = true
goes_by_hash (LooksAt hash) = true
goes_by_hash (EachWord operation) = false
goes_by_hash (EachPair operation on) = false

-- whether no step of a plan clears a bit
abbrev pub turns_none_off : Plan → Bool
turns_none_off (TurnsOn hash) = true
turns_none_off (LooksAt hash) = true
turns_none_off (EachWord operation) = false
turns_none_off (EachPair operation on) = on

-- the most steps that a plan makes, in w words with k hashes
abbrev pub most_steps : ℕ → ℕ → Plan → ℕ
most_steps w k (TurnsOn hash) = k
most_steps w k (LooksAt hash) = k
most_steps w k (EachWord operation) = w
most_steps w k (EachPair operation on) = 2 * w
