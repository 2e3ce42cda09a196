-- What a machine's fields say of the step that comes next.
use Rattle.std.proofs.Common.{◌/◌, ◌<◌, ◌∙◌, ◌≡◌, ◌≤◌, Bool, List, None, Option, Some, ap, arith, false, if◌then◌else◌, inl, inr, length, refl, subst, sym, true, ℕ}
use Rattle.bloom_steps.proofs.Common.{none-some, same_Some, Call, Contains, Insert, Intersect, Union, Step, And, Or, Other, EachPair, EachWord, LooksAt, Plan, TurnsOn, most_steps, plan_of, Machine, StandsAt, answers, asks, next_step, IsPlaced, Keeps, Taken, step_at, load_at, or_at, word_index, AnswersRight, AsksAfter, AsksRight}
use Rattle.bloom_steps.proofs.StepLemmas.Completing.{finish}
use Rattle.bloom_steps.proofs.StepLemmas.Going.{is_next}
use Rattle.bloom_steps.proofs.StepLemmas.Growing.{FitsNext}
use Rattle.bloom_steps.proofs.StepLemmas.Whole.{answer_of-beginning, not_both}

-- a step of a pair is on its word
pair_on_word : (first : Bool) (op : ℕ → ℕ → Step) (i x n : ℕ) → word_index (op i x) ≡ i → i < n
    → word_index (if first then Other i else op i x) < n
pair_on_word true op i x n at less = less
pair_on_word false op i x n at less = rw (at) less

-- the next step of a machine that goes on is on one of its words
on_word : (m : Machine) (call : Call) → m.call ≡ call → m.ended ≡ false
    → word_index (next_step (plan_of call) m) < m.num_words
on_word m call is going = go call (subst (λ c. m.turn < most_steps m.num_words m.num_hashes
    (plan_of c)) is (m.room going))
  where
    go : (call : Call) → m.turn < most_steps m.num_words m.num_hashes (plan_of call)
        → word_index (next_step (plan_of call) m) < m.num_words
    go (Insert hash) room = omega (arith, m.within)
    go (Contains hash) room = omega (arith, m.within)
    go Union room = pair_on_word _ Or (m.turn / 2) m.other _ refl (omega (arith, room))
    go Intersect room = pair_on_word _ And (m.turn / 2) m.other _ refl (omega (arith, room))
    go call room = room

-- a machine and the steps so far
module _ (m : Machine) (w k : ℕ) where
  -- the step of its plan is the next
  fits_now : (plan : Plan) (s : List Taken) → m.turn ≡ length s → IsPlaced w plan m (length s)
      → Keeps w plan m s → FitsNext w plan s (next_step plan m)
  fits_now (TurnsOn h) s turn placed keeps = ap or_at placed.here
  fits_now (LooksAt h) s turn placed keeps = ap load_at placed.here
  fits_now (EachWord op) s turn placed keeps = ap op turn
  fits_now (EachPair op on) s turn placed keeps =
      ap (λ n. step_at w (EachPair op on) n m.other) turn
      ∙ ap (step_at w (EachPair op on) (length s)) keeps

  -- where a step is asked for the call goes on, and the step is the next
  pub fits_asked : (call : Call) (s : List Taken) (step : Step) → StandsAt m w k call s
      → asks m ≡ Some step
      → (m.ended ≡ false) × FitsNext w (plan_of call) s step
  fits_asked call s step st asked = go m.ended refl asked
    where
      go : (b : Bool) → m.ended ≡ b
          → (if b then None else Some (next_step (plan_of m.call) m)) ≡ Some step
          → (m.ended ≡ false) × FitsNext w (plan_of call) s step
      go true is e = absurd (none-some _ e)
      go false is e =
          let same : next_step (plan_of call) m ≡ step =
          ap (λ c. next_step (plan_of c) m) (sym st.is_call) ∙ same_Some _ _ e in
          let fits = fits_now (plan_of call) s st.turns st.placed st.keeps in
          (is, subst (FitsNext w (plan_of call) s) same fits)

  -- what is asked is the next step of a beginning, and after a whole script nothing
  pub asks_after : (call : Call) (s : List Taken) (asked : Option Step) → asked ≡ asks m
      → StandsAt m w k call s → AsksAfter w k call s asked
  asks_after call s asked is_asked st = go m.ended refl
    where
      some_words : 1 ≤ w
      some_words = subst (λ n. 1 ≤ n) st.words m.some_words

      some_hashes : 1 ≤ k
      some_hashes = subst (λ n. 1 ≤ n) st.hashes m.some_hashes

      asked_by : (b : Bool) → m.ended ≡ b
          → asks m ≡ (if b then None else Some (next_step (plan_of m.call) m))
      asked_by b is = ap (λ x. if x then None else Some (next_step (plan_of m.call) m)) is

      go : (b : Bool) → m.ended ≡ b → AsksAfter w k call s asked
      go true is = record {
        either = inr (st.whole is);
        begun = λ b. absurd (not_both w k call s some_words some_hashes (st.whole is) b);
        over = λ _. is_asked ∙ asked_by true is;
      }
      go false is =
          let asks_it = asked_by false is in
          let begun = finish w k call s (st.goes_on is) in
          let step = next_step (plan_of m.call) m in
          record {
            either = inl begun;
            begun = λ _. record {
              step = step;
              asks_it = is_asked ∙ asks_it;
              next = is_next w k call s step (fits_asked call s step st asks_it).1;
              within = subst (λ n. word_index step < n) st.words (on_word m m.call refl is);
            };
            over = λ whole. absurd (not_both w k call s some_words some_hashes whole begun);
          }

-- what a machine asks for is right, wherever it stands
pub asks_right : (m : Machine) (asked : Option Step) → asked ≡ asks m → AsksRight m asked
asks_right m asked is_asked w k call s st = asks_after m w k call s asked is_asked st

-- what a machine replies is right, wherever it stands
pub answers_right : (m : Machine) (answer : Option Bool) → answer ≡ answers m
    → AnswersRight m answer
answers_right m answer is w k call s st =
    let says = is ∙ sym st.said in
    record { says = says; begun = λ begun. says ∙ answer_of-beginning w k call s begun }

-- a step that is asked for is the next, and on one of the words
pub asked-within : (w k : ℕ) (call : Call) (s : List Taken) (step : Step)
    → AsksAfter w k call s (Some step) → word_index step < w
asked-within w k call s step asked = elim asked.either [
  | inl begun ↦
      let next = asked.begun begun in
      subst (λ x. word_index x < w) (sym (same_Some step next.step next.asks_it)) next.within
  | inr whole ↦ absurd (none-some step (sym (asked.over whole)))
]
