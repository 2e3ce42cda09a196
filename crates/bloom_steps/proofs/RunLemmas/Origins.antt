-- Where a growing run's positions come from.
use Rattle.bloom_steps.proofs.StepLemmas.Plans.{plan_decides, PlanDecides, on-only}
use Rattle.bloom_steps.proofs.Common.{turns_none_off, Plan, plan_of, TurnsOn, LooksAt, EachWord, EachPair, both_ways, place, Call, Record, Began, Did, Step, EveryCall, Taken, after_records, record_decides, step_decides, Course, IsLawful}
use Rattle.std.proofs.Common.{[], ◌%◌, ◌*◌, ◌/◌, ◌^◌, ◌∙◌, ◌∷◌, ◌≡◌, ◌⊎◌, Bool, List, None, Option, Some, ap, inl, inr, length, map, refl, slice_get, subst, suc, sym, true, unwrap_or, ℕ, false}
use Rattle.bloom_steps.proofs.RunLemmas.Bounds.{NoneMakesOff}
use Rattle.bloom_steps.proofs.RunLemmas.Changes.{DecidesOnly, or-decides_only}
use Rattle.bloom_steps.proofs.RunLemmas.RecordedCalls.{step_held}
use Rattle.bloom_steps.proofs.RunLemmas.PlacedSteps.{IsPlacedAt}
use Rattle.bloom_steps.proofs.StepLemmas.Going.{step-pair}
use Rattle.bloom_steps.proofs.StepLemmas.Deciding.{state-first}

-- some record decides to set a position
abbrev pub HasDecider : List Record → ℕ → Type 0
HasDecider rs q =
    (m : ℕ) × (r : Record) × (slice_get rs m ≡ Some r) × (record_decides r q ≡ Some true)

-- a bit that is set was set at the start, or some record decided it so
pub decider : (A : ℕ → Bool) (rs : List Record) (q : ℕ) → after_records A rs q ≡ true
    → (A q ≡ true) ⊎ HasDecider rs q
decider A [] q on = inl on
decider A (r ∷ rs) q on =
    let first = state-first A (record_decides r) (map record_decides rs) q in
    elim (decider (λ p. unwrap_or (record_decides r p) (A p)) rs q (sym first ∙ on)) [
      | inl before ↦ go (record_decides r q) refl before
      | inr later ↦ inr (suc later.0, later.1, later.2, later.3)
    ]
  where
    go : (o : Option Bool) → record_decides r q ≡ o → unwrap_or o (A q) ≡ true
        → (A q ≡ true) ⊎ HasDecider (r ∷ rs) q
    go None e f = inl f
    go (Some b) e f = inr (0, r, refl, e ∙ ap Some f)

-- some record begins this call of a party
abbrev pub HasBegun : Course → ℕ → Call → Type 0
HasBegun run p call = (n : ℕ) × (slice_get run.records n ≡ Some (Began p call))

-- the steps of a party are among the records
abbrev pub HasSteps : Course → ℕ → List Taken → Type 0
HasSteps run p s =
    (i : ℕ) (t : Taken) → slice_get s i ≡ Some t → (n : ℕ)
    × (slice_get run.records n ≡ Some (Did p t.step t.found t.ended))

-- no step of a plan that clears nothing decides to clear anything
grows_at : (w k q : ℕ) (plan : Plan) (j : ℕ) (step : Step) → PlanDecides plan
    → turns_none_off plan ≡ true → IsPlacedAt w k plan j step → DecidesOnly (Some true) q step
grows_at w k q (TurnsOn h) j step does none at =
    let r = place (64 * w) h j in
    subst (DecidesOnly (Some true) q) (sym at.2) (or-decides_only (r / 64) (2 ^ (r % 64)) q)
grows_at w k q (LooksAt h) j step does none at = inl (ap (λ x. step_decides x q) at.2)
grows_at w k q (EachWord op) j step does none at = absurd (both_ways false refl none)
grows_at w k q (EachPair op on) j step does none (below, found, is) =
    elim (step-pair w op on j found) [
      | inl load ↦ inl (ap (λ x. step_decides x q) (is ∙ load))
      | inr write ↦
          subst (DecidesOnly (Some true) q) (sym (is ∙ write))
          (on-only op on does.0 none (j / 2) found q)
    ]

-- a lawful run of calls that clear nothing
module _ (k : ℕ) (run : Course) (lawful : IsLawful k run)
    (none_off : EveryCall turns_none_off run.records) where
  -- no step decides to clear anything
  pub growing : (q : ℕ) → NoneMakesOff run q
  growing q m p step found e g =
      let h = step_held k run lawful m p step found e g in
      grows_at (length run.start) k q (plan_of h.call) h.j step (plan_decides h.call)
      (none_off h.began.0 p h.call h.began.1) h.at
