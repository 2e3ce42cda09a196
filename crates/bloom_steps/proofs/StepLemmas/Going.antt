-- The step with which a call goes on, and that there is one alone.
use Rattle.std.proofs.Common.{Bool, ◌%◌, ◌*◌, ◌++◌, ◌+◌, ◌/◌, ◌==◌, ◌∙◌, ◌∷◌, ◌≡◌, ◌⊎◌, List, Some, ap, arith, if◌then◌else◌, inl, inr, length, refl, slice_get, suc, sym, take, zero, ℕ}
use Rattle.bloom_steps.proofs.Common.{member-seam, take-more, take-append_seam, Call, Step, Other, EachPair, plan_of, AreStepsOf, IsNext, IsScript, Taken, last_found, step_at}
use Rattle.bloom_steps.proofs.StepLemmas.Growing.{FitsNext, last_found-more}

-- whatever script goes on after a beginning goes on with a step that fits
pub script_next : (w k : ℕ) (call : Call) (s rest : List Taken) (t : Taken)
    → IsScript w k call (s ++ t ∷ rest) → FitsNext w (plan_of call) s t.step
script_next w k call s rest t is =
    is.steps (length s) t (member-seam s rest t)
    ∙ ap (λ l. step_at w (plan_of call) (length s) (last_found l)) (take-append_seam s (t ∷ rest))

-- the step that fits is the next
pub is_next : (w k : ℕ) (call : Call) (s : List Taken) (step : Step)
    → FitsNext w (plan_of call) s step → IsNext w k call s step
is_next w k call s step fits t rest is = script_next w k call s rest t is ∙ sym fits

-- a number is even or odd
pub parity : (n : ℕ) → ((i : ℕ) × (n ≡ 2 * i)) ⊎ ((i : ℕ) × (n ≡ 2 * i + 1))
parity zero = inl (0, refl)
parity (suc n) =
    elim (parity n) [
      | inl p ↦ inr (p.0, omega (arith, p.1))
      | inr q ↦ inl (q.0 + 1, omega (arith, q.1))
    ]

-- a plan of pairs
module _ (w : ℕ) (op : ℕ → ℕ → Step) (on : Bool) where
  -- it reads the other filter at each even index
  pub step-even : (n i found : ℕ) → n ≡ 2 * i → step_at w (EachPair op on) n found ≡ Other i
  step-even n i found is =
      let even : n % 2 ≡ 0 = omega (arith, is) in
      let half : n / 2 ≡ i = omega (arith, is) in
      ap (λ m. if m == 0 then Other (n / 2) else op (n / 2) found) even ∙ ap Other half

  -- at the next index it operates with what that found
  pub step-odd : (n i found : ℕ) → n ≡ 2 * i + 1 → step_at w (EachPair op on) n found ≡ op i found
  step-odd n i found is =
      let odd : n % 2 ≡ 1 = omega (arith, is) in
      let half : n / 2 ≡ i = omega (arith, is) in
      ap (λ m. if m == 0 then Other (n / 2) else op (n / 2) found) odd
      ∙ ap (λ j. op j found) half

  -- it reads the other filter, or operates with what was found
  pub step-pair : (n found : ℕ) → (step_at w (EachPair op on) n found ≡ Other (n / 2))
      ⊎ (step_at w (EachPair op on) n found ≡ op (n / 2) found)
  step-pair n found = elim (parity n) [
    | inl even ↦ inl (step-even n (n / 2) found (omega (arith, even.1)))
    | inr odd ↦ inr (step-odd n (n / 2) found (omega (arith, odd.1)))
  ]

  -- so each pair of steps reads and operates
  pub reads : (s : List Taken) → AreStepsOf w (EachPair op on) s → (i : ℕ) (t : Taken)
      → slice_get s (2 * i) ≡ Some t → t.step ≡ Other i
  reads s steps i t got = steps (2 * i) t got ∙ step-even (2 * i) i _ refl

  pub operates : (s : List Taken) → AreStepsOf w (EachPair op on) s → (i : ℕ) (t u : Taken)
      → slice_get s (2 * i) ≡ Some t → slice_get s (2 * i + 1) ≡ Some u → u.step ≡ op i t.found
  operates s steps i t u got next =
      steps (2 * i + 1) u next ∙ step-odd (2 * i + 1) i _ refl
      ∙ ap (op i) (ap last_found (take-more s (2 * i) t got) ∙ last_found-more (take (2 * i) s) t)
