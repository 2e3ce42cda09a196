-- What no step clears stays set, and past the words nothing is ever set.
use Rattle.bloom_steps.proofs.StepLemmas.Plans.{made, plan_decides, PlanDecides}
use Rattle.std.proofs.Common.{◌%◌, ◌*◌, ◌-◌, ◌/◌, ◌<◌, ◌^◌, ◌∙◌, ◌≡◌, ◌≤◌, ◌⊎◌, None, Some, ap, arith, false, if◌then◌else◌, inl, inr, length, nat_eq, refl, slice_get, subst, sym, true, unwrap_or, ℕ}
use Rattle.bloom_steps.proofs.Common.{some_member, take-length, both_ways, false_from_ne_true, ne_eqb, bit_is_on, content, place, content-past, EachPair, EachWord, LooksAt, Plan, TurnsOn, plan_of, Record, Began, Did, Step, BitsTell, moment, after_records, record_decides, step_decides, Course, IsLawful}
use Rattle.bloom_steps.proofs.RunLemmas.Changes.{DecidesOnly, TurnsOff, moment-more, or-decides_only, persists}
use Rattle.bloom_steps.proofs.RunLemmas.RecordedCalls.{step_held}
use Rattle.bloom_steps.proofs.RunLemmas.PlacedSteps.{IsPlacedAt}
use Rattle.bloom_steps.proofs.RunLemmas.Scripted.{EachStep}
use Rattle.bloom_steps.proofs.StepLemmas.Going.{step-pair}

-- a word within isn't that of a position past
not_here : (q i w : ℕ) → i < w → w ≤ q / 64 → nat_eq (q / 64) i ≡ false
not_here q i w below past = ne_eqb (q / 64) i (λ same. absurd (omega (arith, same, below, past)))

-- past the words no step of a plan clears anything
past_step : (w k q : ℕ) (plan : Plan) (j : ℕ) (step : Step) → PlanDecides plan → w ≤ q / 64
    → IsPlacedAt w k plan j step → DecidesOnly (Some true) q step
past_step w k q (TurnsOn h) j step does past at =
    subst (DecidesOnly (Some true) q) (sym at.2)
    (or-decides_only (place (64 * w) h j / 64) (2 ^ (place (64 * w) h j % 64)) q)
past_step w k q (LooksAt h) j step does past at = inl (ap (λ x. step_decides x q) at.2)
past_step w k q (EachWord op) j step does past at =
    inl
    (ap (λ x. step_decides x q) at.2 ∙ does j q
    ∙ ap (λ b. if b then Some false else None) (not_here q j w at.0 past))
past_step w k q (EachPair op on) j step does past (below, found, is) =
    inl
    (elim (step-pair w op on j found) [
      | inl load ↦ ap (λ x. step_decides x q) (is ∙ load)
      | inr write ↦
          ap (λ x. step_decides x q) (is ∙ write) ∙ does.0 (j / 2) found q
          ∙ ap (λ b. if b then made on (bit_is_on found q) else None)
          (not_here q (j / 2) w (omega (arith, below)) past)
    ])

-- a record that doesn't decide to clear a position doesn't clear it
pub not_off : (run : Course) (m q : ℕ) (r : Record) → slice_get run.records m ≡ Some r
    → (record_decides r q ≡ None) ⊎ (record_decides r q ≡ Some true) → TurnsOff run m q → ⊥
not_off run m q r g only off =
    let after = sym off.1 ∙ moment-more run m r q g in
    elim only [
      | inl none ↦
          both_ways (moment run m q)
          (sym (after ∙ ap (λ o. unwrap_or o (moment run m q)) none)) off.0
      | inr on ↦ both_ways true (sym (after ∙ ap (λ o. unwrap_or o (moment run m q)) on)) refl
    ]

-- no step of a run decides to clear a position
abbrev pub NoneMakesOff : Course → ℕ → Type 0
NoneMakesOff run q = EachStep (DecidesOnly (Some true) q) run

-- where no step decides to clear a position, no record clears it
pub none_off : (run : Course) (q : ℕ) → NoneMakesOff run q → (m : ℕ) → m < length run.records
    → TurnsOff run m q → ⊥
none_off run q all m below off = let there = some_member run.records m below in at there.0 there.1
  where
    at : (r : Record) → slice_get run.records m ≡ Some r → ⊥
    at (Began p call) g = not_off run m q (Began p call) g (inl refl) off
    at (Did p step found e) g = not_off run m q (Did p step found e) g (all m p step found e g) off

-- a course whose bits are what the last steps that decide them made them
module _ (run : Course) (bits : BitsTell run) where
  -- the words hold the last moment
  pub content-end : (q : ℕ) → content run.words q ≡ moment run (length run.records) q
  content-end q =
      bits q ∙ ap (λ rs. after_records (content run.start) rs q) (sym (take-length run.records))

  -- where no step decides to clear a position, it stays set to the end once it is set
  pub stays_to_end : (q : ℕ) → NoneMakesOff run q → (m : ℕ) → m ≤ length run.records
      → moment run m q ≡ true
      → content run.words q ≡ true
  stays_to_end q all m l on =
      content-end q
      ∙ persists run q m (length run.records - m) (length run.records) (omega arith) on
      (λ n a b off. none_off run q all n b off)

-- a lawful run
module _ (k : ℕ) (run : Course) (lawful : IsLawful k run) where
  -- past the words nothing is ever set
  pub moment-past : (m q : ℕ) → m ≤ length run.records → length run.start ≤ q / 64
      → moment run m q ≡ false
  moment-past m q l past = false_from_ne_true (moment run m q) (λ on.
      let count = lawful.count in
      let all : NoneMakesOff run q =
      λ n p step found e g.
      let h = step_held k run lawful n p step found e g in
      past_step (length run.start) k q (plan_of h.call) h.j step (plan_decides h.call) past h.at in
      both_ways (content run.words q) (content-past run.words q (omega arith))
      (stays_to_end run lawful.bits q all m l on))
