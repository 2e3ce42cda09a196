-- What is said of each member of a list, as one fact a member.
use Rattle.std.proofs.Common.{arith, ◌≡◌, ◌∷◌, [], List, ℕ, zero, suc, Some, slice_get, subst, Bool, true, ◌&&◌}
use Rattle.bloom_steps.proofs.Common.{none-some, same_Some, and_parts, Step, End, Taken, Fulfils, HasCount, IsLastEnd, Plan, StopsRight, step_at}

-- one fact for each member, by its index
abbrev pub AllOf : {A : Type 0} → (ℕ → A → Type 0) → List A → Type 0
AllOf P [] = Unit {0}
AllOf P (x ∷ xs) = P zero x × AllOf (λ i. P (suc i)) xs

-- where there is a fact for each member, each has the property
pub each-member : {A : Type 0} (P : ℕ → A → Type 0) (xs : List A) → AllOf P xs
    → (i : ℕ) (x : A) → slice_get xs i ≡ Some x → P i x
each-member P [] all i x g = absurd (none-some x g)
each-member P (y ∷ ys) all zero x g = subst (P zero) (same_Some y x g) all.0
each-member P (y ∷ ys) all (suc i) x g = each-member (λ j. P (suc j)) ys all.1 i x g

-- a step that was taken
abbrev pub took : Step → ℕ → End → Taken
took step found ended = record { step = step; found = found; ended = ended }

-- whether each member passes a test, by its index
abbrev pub all_pass : {A : Type 0} → (ℕ → A → Bool) → List A → Bool
all_pass test [] = true
all_pass test (x ∷ xs) = test zero x && all_pass (λ i. test (suc i)) xs

-- where all members pass a test, each does
pub each-passes : {A : Type 0} (test : ℕ → A → Bool) (xs : List A) → all_pass test xs ≡ true
    → (i : ℕ) (x : A) → slice_get xs i ≡ Some x → test i x ≡ true
each-passes test [] all i x g = absurd (none-some x g)
each-passes test (y ∷ ys) all zero x g =
    subst (λ z. test zero z ≡ true) (same_Some y x g)
    (and_parts (test zero y) (all_pass (λ i. test (suc i)) ys) all).0
each-passes test (y ∷ ys) all (suc i) x g =
    each-passes (λ j. test (suc j)) ys
    (and_parts (test zero y) (all_pass (λ j. test (suc j)) ys) all).1 i x g

-- one step is a whole script where it is the plan's and ends as that has to
pub one-step : (w k : ℕ) (plan : Plan) (t : Taken) → HasCount w k plan 1
    → t.step ≡ step_at w plan 0 0 → StopsRight w k plan (t ∷ [])
    → IsLastEnd w plan (t ∷ []) t.ended → Fulfils w k plan (t ∷ [])
one-step w k plan t count step stops last = record {
  count = count;
  steps = each-member _ (t ∷ []) (step, tt);
  stops = stops;
  running = each-member _ (t ∷ []) ((λ l. absurd (omega (arith, l))), tt);
  last = each-member _ (t ∷ []) ((λ l. last), tt);
}
