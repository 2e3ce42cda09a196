-- In a lawful course a step that sets bits, or takes a word, does so in one of the words.
use Rattle.std.proofs.Common.{◌*◌, ◌+◌, ◌/◌, ◌<◌, ◌∙◌, ◌≡◌, ap, arith, inl, inr, length, subst, sym, true, false, ℕ}
use Rattle.bloom_steps.proofs.Common.{both_ways, cases_lt, slice_get_within, place, And, Call, Insert, Intersect, Or, Union, Course, IsLawful, moment, plan_of, step_decides, Taken}
use Rattle.bloom_steps.specs.declared.steps.vocabulary.Call.TheVariants.{Take}
use Rattle.bloom_steps.proofs.RunLemmas.Bounds.{moment-past}
use Rattle.bloom_steps.proofs.RunLemmas.Changes.{or_at-own}
use Rattle.bloom_steps.proofs.RunLemmas.InsertSteps.{Sets, set-after}
use Rattle.bloom_steps.proofs.RunLemmas.PlacedSteps.{IsPlacedAt}
use Rattle.bloom_steps.proofs.RunLemmas.RecordedCalls.{step_held}
use Rattle.bloom_steps.proofs.RunLemmas.Scripted.{IsWithin, StepsWithin}
use Rattle.bloom_steps.proofs.StepLemmas.Going.{step-pair}

-- a lawful course
module _ (k : ℕ) (run : Course) (lawful : IsLawful k run) where
  -- the number of its words
  abbrev w : ℕ
  w = length run.start

  -- a step that sets bits, or takes a word, does so in one of them
  pub lawful-within : StepsWithin run
  lawful-within m party did found ended g =
      let h = step_held k run lawful m party did found ended g in
      by_call h.call h.j h.at
    where
      set-below : (q : ℕ) → moment run (m + 1) q ≡ true → q / 64 < w
      set-below q on =
          let inside = slice_get_within run.records m _ g in
          elim (cases_lt (q / 64) w) [
            | inl below ↦ below
            | inr past ↦
                absurd
                (both_ways (moment run (m + 1) q)
                (moment-past k run lawful (m + 1) q (omega (arith, inside)) past) on)
          ]

      by_call : (call : Call) (j : ℕ) → IsPlacedAt w k (plan_of call) j did → IsWithin w did
      by_call (Insert hash) j at =
          let q = place (64 * w) hash j in
          let t : Taken = record { step = did; found = found; ended = ended } in
          let sets : Sets did q = ap (λ x. step_decides x q) at.2 ∙ or_at-own q in
          subst (IsWithin w) (sym at.2) (set-below q (set-after run m party t g q sets))
      by_call Union j (below, x, is) = elim (step-pair w Or true j x) [
        | inl load ↦ subst (IsWithin w) (sym (is ∙ load)) tt
        | inr write ↦
            let within : j / 2 < w = omega (arith, below) in
            subst (IsWithin w) (sym (is ∙ write)) within
      ]
      by_call Intersect j (below, x, is) = elim (step-pair w And false j x) [
        | inl load ↦ subst (IsWithin w) (sym (is ∙ load)) tt
        | inr write ↦ subst (IsWithin w) (sym (is ∙ write)) tt
      ]
      by_call Take j at = subst (IsWithin w) (sym at.2) at.0
      by_call call j at = subst (IsWithin w) (sym at.2) tt
