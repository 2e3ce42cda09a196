-- The set after a whole call, alone, is what its command makes of that before.
use Rattle.bloom_steps.proofs.Common.{some_member, Step, Call, Clear, Contains, Insert, Intersect, Union, And, Or, Zero, take-length, both_ways, cases_lt, slice_get_within, content, place, positions, position-from, position-to, AreStepsOf, IsScript, Taken, Each, EachPair, command_of, other_words, after_records, or_at, step_decides, did}
use Rattle.std.proofs.Common.{◌*◌, ◌/◌, ◌∙◌, ◌≡◌, ◌≤◌, Bool, List, None, Some, ap, arith, eq-eqb, false, if◌then◌else◌, inl, inr, length, nat_eq, refl, sym, true, unwrap_or, ℕ}
use Rattle.bloom_steps.specs.declared.steps.vocabulary.Call.TheVariants.{Take}
use Rattle.bloom_steps.specs.declared.steps.vocabulary.Step.TheVariants as step
use Rattle.bloom_parts.specs.Operations.{decides}
use Rattle.bloom_steps.proofs.RunLemmas.Changes.{only-where, or_at-decides}
use Rattle.bloom_steps.proofs.RunLemmas.CallSteps.{AllDecide, Fits, steps-none, steps-some}
use Rattle.bloom_steps.proofs.RunLemmas.PairSteps.{other-past, pairs-steps}
use Rattle.bloom_steps.proofs.StepLemmas.Plans.{ReadsNoOther, TurnsBy, TurnsWordOff, made, plan_decides}

-- past the words nothing is set, before a call and after it
past : (w p : ℕ) (A : ℕ → Bool) (s : List Taken) (q : ℕ) → Fits w A (did p s) → w ≤ q / 64
    → (A q ≡ false) × (after_records A (did p s) q ≡ false)
past w p A s q f l = (
  f.within 0 q (omega arith) l,
  ap (λ rs. after_records A rs q) (sym (take-length (did p s)))
      ∙ f.within (length (did p s)) q (omega arith) l,
)

-- a script of w words and k hashes, made by a party
module _ (w k p : ℕ) (s : List Taken) (A : ℕ → Bool) where
  -- the steps of an insert set its positions
  pub insert-all : (h q : ℕ) → IsScript w k (Insert h) s → AllDecide s q (Some true)
  insert-all h q is i t g = elim (or_at-decides (place (64 * w) h i) q) [
    | inl here ↦ inr (ap (λ x. step_decides x q) (is.steps i t g) ∙ here.1)
    | inr other ↦ inl (ap (λ x. step_decides x q) (is.steps i t g) ∙ other.1)
  ]

  -- the steps of a look-up decide nothing
  pub contains-all : (h q : ℕ) → IsScript w k (Contains h) s → AllDecide s q None
  contains-all h q is i t g = inl (ap (λ x. step_decides x q) (is.steps i t g))

  -- an insert leaves its positions set
  insert-steps : (h q : ℕ) → IsScript w k (Insert h) s
      → after_records A (did p s) q ≡ unwrap_or (made true (positions (64 * w) k h q)) (A q)
  insert-steps h q is = go (positions (64 * w) k h q) refl
    where
      go : (b : Bool) → positions (64 * w) k h q ≡ b
          → after_records A (did p s) q ≡ unwrap_or (made true b) (A q)
      go true e =
          let at = position-from (64 * w) k h q e in
          let count = is.count in
          let below = at.below in
          let t = some_member s at.index (omega arith) in
          let makes : step_decides (or_at (place (64 * w) h at.index)) q ≡ Some true =
          elim (or_at-decides (place (64 * w) h at.index) q) [
            | inl here ↦ here.1
            | inr other ↦ absurd (other.0 (sym at.here))
          ] in
          steps-some p s A q (Some true) (insert-all h q is) at.index t.0 t.1
          (ap (λ x. step_decides x q) (is.steps at.index t.0 t.1) ∙ makes)
      go false e = steps-none p s A q (λ i t g. elim (or_at-decides (place (64 * w) h i) q) [
        | inl here ↦
            let inside = slice_get_within s i t g in
            let count = is.count in
            absurd
            (both_ways (positions (64 * w) k h q) e
            (position-to (64 * w) k h q
            (record { index = i; below = omega arith; here = sym here.0 })))
        | inr other ↦ inl (ap (λ x. step_decides x q) (is.steps i t g) ∙ other.1)
      ])

  -- one step for each word, which clears it, leaves nothing set
  words-steps : (op : ℕ → Step) → TurnsWordOff op → Each s (λ i t. t.step ≡ op i) → length s ≡ w
      → (q : ℕ) → Fits w A (did p s) → after_records A (did p s) q ≡ false
  words-steps op off steps count q f = elim (cases_lt (q / 64) w) [
    | inl inside ↦
        let t = some_member s (q / 64) (omega arith) in
        steps-some p s A q (Some false) all (q / 64) t.0 t.1
        (ap (λ x. step_decides x q) (steps (q / 64) t.0 t.1) ∙ off (q / 64) q
        ∙ ap (λ b. if b then Some false else None) (eq-eqb (q / 64) (q / 64) refl))
    | inr l ↦ (past w p A s q f l).1
  ]
    where
      all : AllDecide s q (Some false)
      all i u g =
          let decides = ap (λ x. step_decides x q) (steps i u g) ∙ off i q in
          elim (only-where (nat_eq (q / 64) i) (Some false)) [
            | inl none ↦ inl (decides ∙ none)
            | inr some ↦ inr (decides ∙ some)
          ]

  -- pairs make of each position what the other filter's bit says
  pairs-make : (op : ℕ → ℕ → Step) (on : Bool) → TurnsBy op on × ReadsNoOther op
      → AreStepsOf w (EachPair op on) s → length s ≡ 2 * w → (q : ℕ) → Fits w A (did p s)
      → after_records A (did p s) q ≡ unwrap_or (made on (content (other_words s) q)) (A q)
  pairs-make op on does steps count q f = elim (cases_lt (q / 64) w) [
    | inl inside ↦ pairs-steps op on does.0 does.1 w s steps count p A q inside
    | inr l ↦
        let off = past w p A s q f l in
        let other = other-past op on does.0 does.1 w s steps count q l in
        off.1 ∙ sym (ap (λ b. unwrap_or (made on b) (A q)) other ∙ made-none on off.0)
  ]
    where
      made-none : (on : Bool) → A q ≡ false → unwrap_or (made on false) (A q) ≡ false
      made-none true none = none
      made-none false none = refl

  -- the set after a whole call
  pub call-steps : (call : Call) (q : ℕ) → IsScript w k call s → Fits w A (did p s)
      → after_records A (did p s) q ≡ unwrap_or
      (decides (64 * w) k (command_of call (content (other_words s))) q) (A q)
  call-steps (Insert h) q is f = insert-steps h q is
  call-steps (Contains h) q is f = steps-none p s A q (contains-all h q is)
  call-steps Clear q is f = words-steps Zero (plan_decides Clear) is.steps is.count q f
  call-steps Union q is f = pairs-make Or true (plan_decides Union) is.steps is.count q f
  call-steps Intersect q is f = pairs-make And false (plan_decides Intersect) is.steps is.count q f
  call-steps Take q is f = words-steps step.Take (plan_decides Take) is.steps is.count q f
