-- A call that goes on can be brought to its end, so its steps so far are a beginning.
use Rattle.std.proofs.Common.{[], ◌*◌, ◌++◌, ◌+◌, ◌-◌, ◌∷◌, ◌≡◌, ◌⊎◌, List, append_assoc, arith, false, inl, inr, length, refl, subst, suc, zero, ℕ}
use Rattle.bloom_steps.proofs.Common.{member-seam, bit_is_on, place, bit_is_on-zero, Call, End, Answer, Done, Running, Step, LooksAt, Plan, TurnsOn, plan_of, GoesOn, most_steps, IsBeginning, Taken, Fulfils, last_found, step_at}
use Rattle.bloom_steps.proofs.StepLemmas.Finding.{ends-off}
use Rattle.bloom_steps.proofs.StepLemmas.Growing.{EndsNext, FitsNext, KeepsOnAt, goes_on-more, length-more, script-more}

-- steps that can be brought to an end
record CanEnd (w k : ℕ) (plan : Plan) (s : List Taken) : Type 0 where
  next : Taken
  rest : List Taken
  whole : Fulfils w k plan (s ++ next ∷ rest)

-- steps before ones that can be brought to an end can be brought to one
after : (w k : ℕ) (plan : Plan) (s : List Taken) (t : Taken) → CanEnd w k plan (s ++ t ∷ [])
    → CanEnd w k plan s
after w k plan s t b = record {
  next = t;
  rest = b.next ∷ b.rest;
  whole = subst (Fulfils w k plan) (append_assoc s (t ∷ []) (b.next ∷ b.rest)) b.whole;
}

-- where one step is left, one that finds 0 ends the plan
last_end : (w k : ℕ) (plan : Plan) (s : List Taken) (step : Step)
    → length s + 1 ≡ most_steps w k plan
    → (e : End) × EndsNext w k plan s (record { step = step; found = 0; ended = e })
last_end w k (TurnsOn h) s step e =
    let t : Taken = record { step = step; found = 0; ended = Answer false } in
    let off : bit_is_on t.found (place (64 * w) h (length s)) ≡ false =
    bit_is_on-zero (place (64 * w) h (length s)) in
    (Answer false, (e, ends-off w h (s ++ t ∷ []) (length s) t (member-seam s [] t) off))
last_end w k (LooksAt h) s step e = (_, (inr e, refl))
last_end w k plan s step e = (Done, (e, refl))

-- a step that finds 0 either leaves the plan running or ends it
either : (w k : ℕ) (plan : Plan) (s : List Taken) (step : Step)
    → KeepsOnAt w plan s (record { step = step; found = 0; ended = Running })
    ⊎ ((e : End) × EndsNext w k plan s (record { step = step; found = 0; ended = e }))
either w k (LooksAt h) s step = inr (_, (inl (bit_is_on-zero (place (64 * w) h (length s))), refl))
either w k plan s step = inl tt

-- where a step that fits ends the plan, the steps before it can be brought to an end
ends_now : (w k : ℕ) (plan : Plan) (s : List Taken) → GoesOn w k plan s → (step : Step)
    → FitsNext w plan s step → (e : End)
    → EndsNext w k plan s (record { step = step; found = 0; ended = e }) → CanEnd w k plan s
ends_now w k plan s g step fits e ends =
    record {
      next = _;
      rest = [];
      whole = script-more w k plan s (record { step = step; found = 0; ended = e }) g fits ends;
    }

-- a plan that goes on can be brought to its end in this many steps
finish_in : (w k : ℕ) (plan : Plan) (n : ℕ) (s : List Taken)
    → length s + suc n ≡ most_steps w k plan → GoesOn w k plan s → CanEnd w k plan s
finish_in w k plan zero s e g =
    let step = step_at w plan (length s) (last_found s) in
    let last = last_end w k plan s step (omega (arith, e)) in
    ends_now w k plan s g step refl last.0 last.1
finish_in w k plan (suc n) s e g =
    let step = step_at w plan (length s) (last_found s) in
    let t : Taken = record { step = step; found = 0; ended = Running } in
    let l = length-more s t in
    elim (either w k plan s step) [
      | inl on ↦
          after w k plan s t
          (finish_in w k plan n (s ++ t ∷ []) (omega (arith, l, e))
          (goes_on-more w k plan s t g refl refl (omega (arith, e)) on))
      | inr last ↦ ends_now w k plan s g step refl last.0 last.1
    ]

-- the steps of a plan that goes on are a beginning
pub finish : (w k : ℕ) (call : Call) (s : List Taken) → GoesOn w k (plan_of call) s
    → IsBeginning w k call s
finish w k call s g =
    let room = g.room in
    let end =
    finish_in w k (plan_of call) (most_steps w k (plan_of call) - suc (length s)) s (omega arith)
    g in
    record { next = end.next; rest = end.rest; script = end.whole }
