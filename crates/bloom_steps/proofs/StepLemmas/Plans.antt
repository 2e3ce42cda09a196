-- What the steps of a plan decide.
use Rattle.std.proofs.Common.{◌/◌, ◌≡◌, ◌∙◌, ◌⊎◌, [], Bool, ap, inl, inr, None, Option, Some, false, if◌then◌else◌, nat_eq, not, ◌&&◌, refl, true, ℕ}
use Rattle.bloom_steps.proofs.Common.{both_ways, bit_is_on, Call, Contains, Insert, Intersect, Union, Step, And, Or, EachPair, EachWord, LooksAt, Plan, TurnsOn, goes_by_hash, plan_of, turns_none_off, found_in_other, step_decides}

-- what a step that sets bits, or else clears them, makes of a bit of the word that it was given
abbrev pub made : Bool → Bool → Option Bool
made true b = if b then Some true else None
made false b = if b then None else Some false

-- an operation on a word clears its bits
abbrev pub TurnsWordOff : (ℕ → Step) → Type 0
TurnsWordOff op =
    (i q : ℕ) → step_decides (op i) q ≡ (if nat_eq (q / 64) i then Some false else None)

-- an operation with a word sets the bits that are set there, or else clears those that aren't
abbrev pub TurnsBy : (ℕ → ℕ → Step) → Bool → Type 0
TurnsBy op on =
    (i x q : ℕ) → step_decides (op i x) q
    ≡ (if nat_eq (q / 64) i then made on (bit_is_on x q) else None)

-- an operation doesn't read the other filter
abbrev pub ReadsNoOther : (ℕ → ℕ → Step) → Type 0
ReadsNoOther op = (i x found : ℕ) → found_in_other (op i x) found ≡ []

-- what the operations of a plan decide
abbrev pub PlanDecides : Plan → Type 0
PlanDecides (TurnsOn h) = Unit {0}
PlanDecides (LooksAt h) = Unit {0}
PlanDecides (EachWord op) = TurnsWordOff op
PlanDecides (EachPair op on) = TurnsBy op on × ReadsNoOther op

-- a mask sets what it has
by-or : TurnsBy Or true
by-or i x q = go (nat_eq (q / 64) i) (bit_is_on x q)
  where
    go : (a b : Bool) → (if a && b then Some true else None) ≡ (if a then made true b else None)
    go true b = refl
    go false b = refl

-- an and clears what its mask lacks
by-and : TurnsBy And false
by-and i x q = go (nat_eq (q / 64) i) (bit_is_on x q)
  where
    go : (a b : Bool)
        → (if a && not b then Some false else None) ≡ (if a then made false b else None)
    go true true = refl
    go true false = refl
    go false b = refl

-- the operations of each call decide as its plan says
pub plan_decides : (call : Call) → PlanDecides (plan_of call)
plan_decides (Insert h) = tt
plan_decides (Contains h) = tt
plan_decides Union = (by-or, (λ i x found. refl))
plan_decides Intersect = (by-and, (λ i x found. refl))
plan_decides call = λ i q. refl

-- an operation that sets bits makes no other decision
pub on-only : (op : ℕ → ℕ → Step) (on : Bool) → TurnsBy op on → on ≡ true → (i x q : ℕ)
    → (step_decides (op i x) q ≡ None) ⊎ (step_decides (op i x) q ≡ Some true)
on-only op on by is i x q =
    let decides =
    by i x q ∙ ap (λ o. if nat_eq (q / 64) i then made o (bit_is_on x q) else None) is in
    elim (go (nat_eq (q / 64) i) (bit_is_on x q)) [
      | inl none ↦ inl (decides ∙ none)
      | inr some ↦ inr (decides ∙ some)
    ]
  where
    go : (a b : Bool)
        → ((if a then made true b else None) ≡ None)
        ⊎ ((if a then made true b else None) ≡ Some true)
    go true true = inr refl
    go true false = inl refl
    go false b = inl refl

-- a plan that goes by a hash clears nothing
pub hash-grows : (plan : Plan) → goes_by_hash plan ≡ true → turns_none_off plan ≡ true
hash-grows (EachPair op on) e = absurd (both_ways false refl e)
hash-grows plan e = e
