-- The scripts of a call. A script is a whole list of word steps that the call may make, with the
-- word that each found and how the call stood after it. Which steps make up a call is this
-- project's choice; the positions of a hash are those of the crate fastbloom 0.17.0.
use Rattle.std.specs.Prelude.{ℕ, ◌+◌, ◌*◌, ◌/◌, ◌%◌, ◌≤◌, ◌<◌, ◌≡◌, ◌↔◌, ◌==◌, Bool, true, false, List, [], ◌∷◌, ◌++◌, length, take, Option, Some, None, slice_get, if◌then◌else◌}
use Rattle.bloom_parts.specs.Content.{bit_is_on}
use Rattle.bloom_parts.specs.Places.{place}
use Rattle.bloom_steps.specs.Vocabulary.{Step, Other, Call, End, Running, Done, Answer}
use Rattle.bloom_steps.specs.Plans.{Plan, TurnsOn, LooksAt, EachWord, EachPair, plan_of}
use Rattle.bloom_steps.specs.Steps.{or_at, load_at}

-- a step that was taken, with the word that it found and how the call stood after it
pub record Taken : Type 0 where
  pub step : Step
  pub found : ℕ
  pub ended : End

-- each member of a list, with its index, has a property
abbrev pub Each : List Taken → (ℕ → Taken → Type 0) → Type 0
Each s P = (i : ℕ) (t : Taken) → slice_get s i ≡ Some t → P i t

-- some member of a list, with its index, has a property
abbrev pub Any : List Taken → (ℕ → Taken → Type 0) → Type 0
Any s P = (i : ℕ) × (t : Taken) × (slice_get s i ≡ Some t) × P i t

-- each member but the last has a property
abbrev pub AllButLast : List Taken → (ℕ → Taken → Type 0) → Type 0
AllButLast s P = Each s (λ i t. i + 1 < length s → P i t)

-- the last member, if there is one, has a property
abbrev pub Last : List Taken → (ℕ → Taken → Type 0) → Type 0
Last s P = Each s (λ i t. i + 1 ≡ length s → P i t)

-- how many steps a plan makes, whatever they find
abbrev pub HasCount : ℕ → ℕ → Plan → ℕ → Type 0
HasCount w k (TurnsOn hash) count = count ≡ k
HasCount w k (LooksAt hash) count = (1 ≤ count) × (count ≤ k)
HasCount w k (EachWord operation) count = count ≡ w
HasCount w k (EachPair operation on) count = count ≡ 2 * w

-- the word that the last of some steps found, or 0 where there is none
abbrev pub last_found : List Taken → ℕ
last_found [] = 0
last_found (t ∷ []) = t.found
last_found (t ∷ (u ∷ rest)) = last_found (u ∷ rest)

-- the step of a plan at an index, where the step before it found this word: a plan of pairs reads
-- each word of the other filter, and then operates with what that found
abbrev pub step_at : ℕ → Plan → ℕ → ℕ → Step
step_at w (TurnsOn hash) i found = or_at (place (64 * w) hash i)
step_at w (LooksAt hash) i found = load_at (place (64 * w) hash i)
step_at w (EachWord operation) i found = operation i
step_at w (EachPair operation on) i found =
    if i % 2 == 0 then Other (i / 2) else operation (i / 2) found

-- the step at each index is the plan's
abbrev pub AreStepsOf : ℕ → Plan → List Taken → Type 0
AreStepsOf w plan s = Each s (λ i t. t.step ≡ step_at w plan i (last_found (take i s)))

-- the steps so far found the bits set that they looked at
abbrev pub AllFoundOn : ℕ → ℕ → List Taken → Type 0
AllFoundOn w hash s = Each s (λ i t. bit_is_on t.found (place (64 * w) hash i) ≡ true)

-- a look-up ends after the first step that found its bit clear, and else after all hashes
pub record StopsAtFirstOff (w k hash : ℕ) (s : List Taken) : Type 0 where
  pub earlier : AllButLast s (λ i t. bit_is_on t.found (place (64 * w) hash i) ≡ true)
  pub early : Last s (λ i t. i + 1 < k → bit_is_on t.found (place (64 * w) hash i) ≡ false)

-- a plan stops where it has to: a look-up alone looks at what it found
abbrev pub StopsRight : ℕ → ℕ → Plan → List Taken → Type 0
StopsRight w k (TurnsOn hash) s = Unit {0}
StopsRight w k (LooksAt hash) s = StopsAtFirstOff w k hash s
StopsRight w k (EachWord operation) s = Unit {0}
StopsRight w k (EachPair operation on) s = Unit {0}

-- how a plan stands after its last step: an insert of a hash replies false exactly if some step
-- found its bit clear, and a look-up replies what its last step found
abbrev pub IsLastEnd : ℕ → Plan → List Taken → End → Type 0
IsLastEnd w (TurnsOn hash) s end = (reply : Bool) × (end ≡ Answer reply)
    × ((reply ≡ false) ↔ Any s (λ i t. bit_is_on t.found (place (64 * w) hash i) ≡ false))
IsLastEnd w (LooksAt hash) s end =
    Last s (λ i t. end ≡ Answer (bit_is_on t.found (place (64 * w) hash i)))
IsLastEnd w (EachWord operation) s end = end ≡ Done
IsLastEnd w (EachPair operation on) s end = end ≡ Done

-- steps that carry out a plan from its first to its last, in w words with k hashes
pub record Fulfils (w k : ℕ) (plan : Plan) (s : List Taken) : Type 0 where
  pub count : HasCount w k plan (length s)
  pub steps : AreStepsOf w plan s
  pub stops : StopsRight w k plan s
  pub running : AllButLast s (λ i t. t.ended ≡ Running)
  pub last : Last s (λ i t. IsLastEnd w plan s t.ended)

-- a script of a call, in w words with k hashes
abbrev pub IsScript : ℕ → ℕ → Call → List Taken → Type 0
IsScript w k call s = Fulfils w k (plan_of call) s

-- a front of a script, shorter than it
pub record IsBeginning (w k : ℕ) (call : Call) (s : List Taken) : Type 0 where
  pub next : Taken
  pub rest : List Taken
  pub script : IsScript w k call (s ++ next ∷ rest)

-- the step with which every script of the call that begins with these steps goes on
abbrev pub IsNext : ℕ → ℕ → Call → List Taken → Step → Type 0
IsNext w k call s step =
    (t : Taken) (rest : List Taken) → IsScript w k call (s ++ t ∷ rest) → t.step ≡ step

-- the reply with which a call ended, if it has one
abbrev pub answer_of_end : End → Option Bool
answer_of_end Running = None
answer_of_end Done = None
answer_of_end (Answer reply) = Some reply

-- the reply after the last of some steps, if there is one
abbrev pub answer_of : List Taken → Option Bool
answer_of [] = None
answer_of (t ∷ []) = answer_of_end t.ended
answer_of (t ∷ (u ∷ rest)) = answer_of (u ∷ rest)

-- steps lead from one store to another, each from where the one before left it
abbrev pub Linked : {S : Type 0} → (S → Step → ℕ → S → Type 0) → S → List Taken → S → Type 0
Linked {S} moved before [] after = after ≡ before
Linked {S} moved before (t ∷ ts) after =
    (mid : S) × moved before t.step t.found mid × Linked moved mid ts after

-- steps that carry out a plan lead from one store to the other, with this reply
pub record DrivesPlan
    {S : Type 0} (moved : S → Step → ℕ → S → Type 0) (w k : ℕ) (plan : Plan) (before after : S)
    (reply : Option Bool) : Type 0 where
  pub taken : List Taken
  pub script : Fulfils w k plan taken
  pub linked : Linked moved before taken after
  pub answers : reply ≡ answer_of taken

-- a whole script of the call leads from one store to the other, with this reply
abbrev pub Drives : {S : Type 0} → (S → Step → ℕ → S → Type 0) → ℕ → ℕ → Call → S → S
    → Option Bool → Type 0
Drives moved w k call before after reply = DrivesPlan moved w k (plan_of call) before after reply
