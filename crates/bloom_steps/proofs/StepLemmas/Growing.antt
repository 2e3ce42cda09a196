-- Steps of a plan that grow by one at the end.
use Rattle.std.proofs.Common.{[], ◌*◌, ◌++◌, ◌+◌, ◌<◌, ◌∙◌, ◌∷◌, ◌≡◌, ◌⊎◌, List, ap, arith, false, inl, inr, length, length-append, refl, subst, sym, take, true, ℕ}
use Rattle.bloom_steps.proofs.Common.{member_of_more, take-append_seam, take-append-le, bit_is_on, place, EachPair, EachWord, LooksAt, Plan, TurnsOn, Answer, Done, Running, Step, GoesOn, KeepsOn, most_steps, AllButLast, AreStepsOf, Each, HasCount, IsLastEnd, Last, StopsRight, Taken, Fulfils, last_found, step_at}

-- a step that fits a plan after these steps
abbrev pub FitsNext : ℕ → Plan → List Taken → Step → Type 0
FitsNext w plan s step = step ≡ step_at w plan (length s) (last_found s)

-- one step more finds the word that was found last
pub last_found-more : (s : List Taken) (t : Taken) → last_found (s ++ t ∷ []) ≡ t.found
last_found-more [] t = refl
last_found-more (u ∷ []) t = refl
last_found-more (u ∷ (v ∷ s)) t = last_found-more (v ∷ s) t

-- one step more makes the steps longer by one
pub length-more : (s : List Taken) (t : Taken) → length (s ++ t ∷ []) ≡ length s + 1
length-more s t = length-append s (t ∷ [])

-- what each step has, and one more, each of them has
pub each-more : (s : List Taken) (t : Taken) (P : ℕ → Taken → Type 0) → Each s P → P (length s) t
    → Each (s ++ t ∷ []) P
each-more s t P all here i u e =
    elim (member_of_more s t u i e) [
      | inl p ↦ all i u p.1
      | inr q ↦ subst (λ j. P j u) (sym q.0) (subst (λ v. P (length s) v) (sym q.1) here)
    ]

-- what each step has, each but the last of one step more has
pub but_last-more : (s : List Taken) (t : Taken) (P : ℕ → Taken → Type 0) → Each s P
    → AllButLast (s ++ t ∷ []) P
but_last-more s t P all i u e short = elim (member_of_more s t u i e) [
  | inl p ↦ all i u p.1
  | inr q ↦ absurd (omega (arith, length-more s t, short, q.0))
]

-- what one step more has, the last has
pub last_step-more : (s : List Taken) (t : Taken) (P : ℕ → Taken → Type 0) → P (length s) t
    → Last (s ++ t ∷ []) P
last_step-more s t P here i u e closes = elim (member_of_more s t u i e) [
  | inl p ↦ absurd (omega (arith, length-more s t, closes, p.0))
  | inr q ↦ subst (λ j. P j u) (sym q.0) (subst (λ v. P (length s) v) (sym q.1) here)
]

-- a step that fits leaves the steps right
steps-more : (w : ℕ) (plan : Plan) (s : List Taken) (t : Taken) → AreStepsOf w plan s
    → FitsNext w plan s t.step → AreStepsOf w plan (s ++ t ∷ [])
steps-more w plan s t all fits i u g =
    let at = λ (l : List Taken). step_at w plan i (last_found l) in
    elim (member_of_more s t u i g) [
      | inl p ↦
          let inside = p.0 in
          all i u p.1 ∙ ap at (sym (take-append-le i s (t ∷ []) (omega (arith, inside))))
      | inr q ↦
          ap (λ (v : Taken). v.step) q.1 ∙ fits
          ∙ ap (λ n. step_at w plan n (last_found s)) (sym q.0)
          ∙ ap at (sym (ap (λ n. take n (s ++ t ∷ [])) q.0 ∙ take-append_seam s (t ∷ [])))
    ]

-- the plan goes on after a step at which it doesn't end
abbrev pub KeepsOnAt : ℕ → Plan → List Taken → Taken → Type 0
KeepsOnAt w (TurnsOn h) s t = Unit {0}
KeepsOnAt w (LooksAt h) s t = bit_is_on t.found (place (64 * w) h (length s)) ≡ true
KeepsOnAt w (EachWord op) s t = Unit {0}
KeepsOnAt w (EachPair op on) s t = Unit {0}

-- a step at which the plan doesn't end leaves it going on
keeps_on-more : (w : ℕ) (plan : Plan) (s : List Taken) (t : Taken) → KeepsOn w plan s
    → KeepsOnAt w plan s t → KeepsOn w plan (s ++ t ∷ [])
keeps_on-more w (LooksAt h) s t all on =
    each-more s t (λ i t. bit_is_on t.found (place (64 * w) h i) ≡ true) all on
keeps_on-more w plan s t all on = tt

-- after a step that fits and doesn't end the plan, the plan goes on
pub goes_on-more : (w k : ℕ) (plan : Plan) (s : List Taken) (t : Taken) → GoesOn w k plan s
    → FitsNext w plan s t.step → t.ended ≡ Running → length s + 1 < most_steps w k plan
    → KeepsOnAt w plan s t → GoesOn w k plan (s ++ t ∷ [])
goes_on-more w k plan s t g fits running room on = record {
  room = subst (λ n. n < most_steps w k plan) (sym (length-more s t)) room;
  steps = steps-more w plan s t g.steps fits;
  keeps_on = keeps_on-more w plan s t g.keeps_on on;
  running = each-more s t (λ i t. t.ended ≡ Running) g.running running;
}

-- the plan ends at a step
abbrev pub EndsNext : ℕ → ℕ → Plan → List Taken → Taken → Type 0
EndsNext w k (TurnsOn h) s t = (length s + 1 ≡ k) × IsLastEnd w (TurnsOn h) (s ++ t ∷ []) t.ended
EndsNext w k (LooksAt h) s t =
    ((bit_is_on t.found (place (64 * w) h (length s)) ≡ false) ⊎ (length s + 1 ≡ k))
    × (t.ended ≡ Answer (bit_is_on t.found (place (64 * w) h (length s))))
EndsNext w k (EachWord op) s t = (length s + 1 ≡ w) × (t.ended ≡ Done)
EndsNext w k (EachPair op way) s t = (length s + 1 ≡ 2 * w) × (t.ended ≡ Done)

-- where the plan ends there are as many steps as it makes
count-more : (w k : ℕ) (plan : Plan) (s : List Taken) (t : Taken) → length s < most_steps w k plan
    → EndsNext w k plan s t → HasCount w k plan (length (s ++ t ∷ []))
count-more w k (LooksAt h) s t room e =
    let l = length-more s t in (omega (arith, l), omega (arith, l))
count-more w k plan s t room e = length-more s t ∙ e.0

-- a plan that ends stops where it has to
stops-more : (w k : ℕ) (plan : Plan) (s : List Taken) (t : Taken) → KeepsOn w plan s
    → EndsNext w k plan s t → StopsRight w k plan (s ++ t ∷ [])
stops-more w k (LooksAt h) s t on e = record {
  earlier = but_last-more s t (λ i u. bit_is_on u.found (place (64 * w) h i) ≡ true) on;
  early =
      last_step-more s t (λ i u. i + 1 < k → bit_is_on u.found (place (64 * w) h i) ≡ false)
      (λ more. elim e.0 [ inl off ↦ off | inr all ↦ absurd (omega (arith, more, all)) ]);
}
stops-more w k plan s t on e = tt

-- the last step of a plan says how it ended
last-more : (w k : ℕ) (plan : Plan) (s : List Taken) (t : Taken) → EndsNext w k plan s t
    → IsLastEnd w plan (s ++ t ∷ []) t.ended
last-more w k (LooksAt h) s t e =
    last_step-more s t (λ i u. t.ended ≡ Answer (bit_is_on u.found (place (64 * w) h i))) e.1
last-more w k plan s t e = e.1

-- the steps up to the end of a plan carry it out
pub script-more : (w k : ℕ) (plan : Plan) (s : List Taken) (t : Taken) → GoesOn w k plan s
    → FitsNext w plan s t.step → EndsNext w k plan s t → Fulfils w k plan (s ++ t ∷ [])
script-more w k plan s t g fits ends = record {
  count = count-more w k plan s t g.room ends;
  steps = steps-more w plan s t g.steps fits;
  stops = stops-more w k plan s t g.keeps_on ends;
  running = but_last-more s t (λ i u. u.ended ≡ Running) g.running;
  last =
      last_step-more s t (λ i u. IsLastEnd w plan (s ++ t ∷ []) u.ended)
      (last-more w k plan s t ends);
}
