-- The call that a record is of, and the place of a step in it.
use Rattle.std.proofs.Common.{◌++◌, ◌<◌, ◌∷◌, ◌≡◌, ◌≤◌, ◌⊎◌, Bool, List, Some, arith, inl, inr, length, slice_get, true, ℕ}
use Rattle.bloom_steps.proofs.Common.{member-front, slice_get_within, Call, Record, Began, Did, Step, LooksAt, Plan, most_steps, plan_of, HasCount, IsBeginning, IsScript, Taken, step_at}

-- a record is of one of these steps
abbrev pub IsOneOf : ℕ → List Taken → Record → Type 0
IsOneOf p s r =
    (j : ℕ) × (t : Taken) × (slice_get s j ≡ Some t) × (r ≡ Did p t.step t.found t.ended)

-- the call that a record is of, among records of which the party's last leaves it running, or not
pub record Holds (w k p : ℕ) (rs : List Record) (going : Bool) (r : Record) : Type 0 where
  pub call : Call
  pub s : List Taken
  pub began : (n : ℕ) × (slice_get rs n ≡ Some (Began p call))
  pub members : (i : ℕ) (t : Taken) → slice_get s i ≡ Some t
      → (n : ℕ) × (slice_get rs n ≡ Some (Did p t.step t.found t.ended))
  pub kind : IsScript w k call s ⊎ (IsBeginning w k call s × (going ≡ true))
  pub which : (r ≡ Began p call) ⊎ IsOneOf p s r

-- a step is that of a plan at an index, whatever the step before it found
abbrev pub IsPlacedAt : ℕ → ℕ → Plan → ℕ → Step → Type 0
IsPlacedAt w k plan j step =
    (j < most_steps w k plan) × (found : ℕ) × (step ≡ step_at w plan j found)

-- a plan makes at most so many steps
count_most : (w k : ℕ) (plan : Plan) (n : ℕ) → HasCount w k plan n → n ≤ most_steps w k plan
count_most w k (LooksAt hash) n count = count.1
count_most w k plan n count = omega (arith, count)

-- each step of a script stands where its plan has it
placed_in : (w k : ℕ) (call : Call) (s : List Taken) → IsScript w k call s → (j : ℕ) (t : Taken)
    → slice_get s j ≡ Some t → IsPlacedAt w k (plan_of call) j t.step
placed_in w k call s is j t g =
    let inside = slice_get_within s j t g in
    let most = count_most w k (plan_of call) (length s) is.count in
    (omega (arith, inside, most), _, is.steps j t g)

-- each step of a call that a record is of stands where its plan has it
pub placed : (w k p : ℕ) (rs : List Record) (going : Bool) (r : Record)
    (h : Holds w k p rs going r) (j : ℕ) (t : Taken)
    → slice_get h.s j ≡ Some t → IsPlacedAt w k (plan_of h.call) j t.step
placed w k p rs going r h j t g = elim h.kind [
  | inl is ↦ placed_in w k h.call h.s is j t g
  | inr b ↦
      let rest = b.0.next ∷ b.0.rest in
      placed_in w k h.call (h.s ++ rest) b.0.script j t (member-front h.s rest t j g)
]
