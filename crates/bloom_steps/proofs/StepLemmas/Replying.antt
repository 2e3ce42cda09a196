-- How a machine that was replied stands one step further on.
use Rattle.bloom_steps.proofs.StepLemmas.Finding.{none-more}
use Rattle.std.proofs.Common.{[], ◌&&◌, ◌*◌, ◌++◌, ◌+◌, ◌<◌, ◌||◌, ◌∙◌, ◌∷◌, ◌≡◌, ◌≢◌, ◌⊎◌, Bool, List, None, Some, ap, arith, eq-eqb, false, if◌then◌else◌, inl, inr, length, nat_eq, not, refl, subst, sym, true, ℕ}
use Rattle.bloom_steps.proofs.Common.{both_ways, eqb-true, bit_is_on, place, Call, Answer, Running, Step, EachPair, LooksAt, Plan, TurnsOn, plan_of, Machine, IsAtPlace, IsPlaced, Keeps, StandsAt, answer_by, asks, end_by, end_of, most_steps, Taken, answer_of, answer_of_end, Learns, MovesOn, Replied, ends_with, StandsFurther}
use Rattle.bloom_steps.proofs.StepLemmas.Asking.{fits_asked}
use Rattle.bloom_steps.proofs.StepLemmas.Growing.{EndsNext, KeepsOnAt, goes_on-more, last_found-more, length-more, script-more}

-- numbers that a test tells apart differ
not_yet : (a b : ℕ) → nat_eq a b ≡ false → a ≢ b
not_yet a b off e = let on : nat_eq a b ≡ true = eq-eqb a b e in cc

-- steps answer what the last does
pub answer_of-more : (s : List Taken) (t : Taken) → answer_of (s ++ t ∷ []) ≡ answer_of_end t.ended
answer_of-more [] t = refl
answer_of-more (u ∷ []) t = refl
answer_of-more (u ∷ (v ∷ s)) t = answer_of-more (v ∷ s) t

-- the end of a plan answers what the machine does
answer-end_of : (plan : Plan) (ended on : Bool)
    → answer_of_end
    (if ended then end_by
    (answer_by plan on) else Running) ≡ (if ended then answer_by plan on else None)
answer-end_of plan false on = refl
answer-end_of (TurnsOn h) true on = refl
answer-end_of plan true on = refl

-- how a machine's fields stand to the steps of a plan
record Stood (m : Machine) (w k : ℕ) (plan : Plan) (s : List Taken) : Type 0 where
  pub words : m.num_words ≡ w
  pub hashes : m.num_hashes ≡ k
  pub turns : m.turn ≡ length s
  pub placed : IsPlaced w plan m (length s)
  pub keeps : Keeps w plan m s

-- a machine before a reply, and the machine after it
module _ (m n : Machine) (w k : ℕ) where
  -- after a reply the machine is at the next place
  placed-more : (plan : Plan) (s : List Taken) (t : Taken) → Stood m w k plan s
      → MovesOn plan m n
      → IsPlaced w plan n (length (s ++ t ∷ []))
  placed-more (TurnsOn h) s t st on =
      subst (λ i. IsAtPlace w h i n) (sym (length-more s t)) (on w (length s) st.words st.placed)
  placed-more (LooksAt h) s t st on =
      subst (λ i. IsAtPlace w h i n) (sym (length-more s t)) (on w (length s) st.words st.placed)
  placed-more plan s t st on = tt

  -- after a reply the machine keeps what was found
  keeps-more : (plan : Plan) (s : List Taken) (t : Taken) → Stood m w k plan s
      → Learns plan m t.found n
      → Keeps w plan n (s ++ t ∷ [])
  keeps-more (TurnsOn h) s t st a =
      let is = a ∙ ap (λ p. m.all_on && bit_is_on t.found p) st.placed.here in
      let tells =
      none-more s t (λ i t. bit_is_on t.found (place (64 * w) h i) ≡ false) m.all_on
      (bit_is_on t.found (place (64 * w) h (length s))) st.keeps ((λ off. off), (λ off. off)) in
      ((λ off. tells.0 (sym is ∙ off)), (λ some. is ∙ tells.1 some))
  keeps-more (EachPair op way) s t st a = a ∙ sym (last_found-more s t)
  keeps-more plan s t st a = tt

  -- where the call goes on there is room for a further step, and no reason to stop
  goes_on : (plan : Plan) (s : List Taken) (t : Taken) → Stood m w k plan s
      → n.ended ≡ ends_with plan m t.found
      → n.ended ≡ false → length s < most_steps w k plan
      → (length s + 1 < most_steps w k plan) × KeepsOnAt w plan s t
  goes_on (LooksAt h) s t st e going room =
      go (bit_is_on t.found m.place) (nat_eq (m.turn + 1) m.num_hashes) refl refl (sym e ∙ going)
    where
      go : (on last : Bool) → bit_is_on t.found m.place ≡ on
          → nat_eq (m.turn + 1) m.num_hashes ≡ last
          → (not on || last) ≡ false
          → (length s + 1 < k) × (bit_is_on t.found (place (64 * w) h (length s)) ≡ true)
      go false last is at e = absurd (both_ways true e refl)
      go true true is at e = absurd (both_ways true e refl)
      go true false is at e =
          let not_last = not_yet _ _ at in
          let turns = st.turns in let hashes = st.hashes in
          (omega arith, ap (λ p. bit_is_on t.found p) (sym st.placed.here) ∙ is)
  goes_on plan s t st e going room =
      let not_last = not_yet _ _ (sym e ∙ going) in
      let turns = st.turns in
      let words = st.words in
      let hashes = st.hashes in
      (omega arith, tt)

  -- where the machine ends, it ends as its script does
  ends : (plan : Plan) (s : List Taken) (t : Taken) → Stood m w k plan s
      → Learns plan m t.found n → n.ended ≡ ends_with plan m t.found
      → n.ended ≡ true → t.ended ≡ end_by (answer_by plan n.all_on) → EndsNext w k plan s t
  ends (TurnsOn h) s t st a e over last =
      let at_last = eqb-true _ _ (sym e ∙ over) in
      let turns = st.turns in let hashes = st.hashes in
      (omega arith, (n.all_on, last, keeps-more (TurnsOn h) s t st a))
  ends (LooksAt h) s t st a e over last = (
    go (bit_is_on t.found m.place) refl (sym e ∙ over),
    last ∙ ap Answer a ∙ ap (λ p. Answer (bit_is_on t.found p)) st.placed.here,
  )
    where
      go : (on : Bool) → bit_is_on t.found m.place ≡ on
          → (not on || nat_eq (m.turn + 1) m.num_hashes) ≡ true
          → (bit_is_on t.found (place (64 * w) h (length s)) ≡ false) ⊎ (length s + 1 ≡ k)
      go true is e =
          let at_last = eqb-true _ _ e in
          let turns = st.turns in let hashes = st.hashes in inr (omega arith)
      go false is e = inl (ap (λ p. bit_is_on t.found p) (sym st.placed.here) ∙ is)
  ends plan s t st a e over last =
      let at_last = eqb-true _ _ (sym e ∙ over) in
      let turns = st.turns in let words = st.words in (omega arith, last)

  -- a machine that was replied stands one step further on
  pub stands-more : (found : ℕ) (call : Call) (s : List Taken) (step : Step) → asks m ≡ Some step
      → Replied m found n → StandsAt m w k call s
      → StandsAt n w k call (s ++ record { step = step; found = found; ended = end_of n } ∷ [])
  stands-more found call s step asked r st =
      let fits = fits_asked m w k call s step st asked in
      let plan = plan_of call in
      let so_far = st.goes_on fits.0 in
      let t : Taken = record { step = step; found = found; ended = end_of n } in
      let learns = subst (λ c. Learns (plan_of c) m found n) st.is_call r.learns in
      let ends_now = r.ends ∙ ap (λ c. ends_with (plan_of c) m found) st.is_call in
      let moves = subst (λ c. MovesOn (plan_of c) m n) st.is_call r.moves_on in
      let same : n.call ≡ call = r.same_call ∙ st.is_call in
      let stood : Stood m w k plan s = record {
        words = st.words;
        hashes = st.hashes;
        turns = st.turns;
        placed = st.placed;
        keeps = st.keeps;
      } in
      let end = λ (b : Bool).
      if b then end_by (answer_by (plan_of n.call) n.all_on) else Running in
      record {
        is_call = same;
        words = r.same_words ∙ st.words;
        hashes = r.same_hashes ∙ st.hashes;
        turns = r.turned ∙ ap (λ x. x + 1) st.turns ∙ sym (length-more s t);
        placed = placed-more plan s t stood moves;
        keeps = keeps-more plan s t stood learns;
        goes_on = λ going.
            let on = goes_on plan s t stood ends_now going so_far.room in
            goes_on-more w k plan s t so_far fits.1 (ap end going) on.0 on.1;
        whole = λ over.
            let answer = ap (λ c. end_by (answer_by (plan_of c) n.all_on)) same in
            script-more w k plan s t so_far fits.1
            (ends plan s t stood learns ends_now over (ap end over ∙ answer));
        said = answer_of-more s t ∙ answer-end_of (plan_of n.call) n.ended n.all_on;
      }

-- a machine that was replied stands one step further on, wherever it stands
pub stands_further : (m n : Machine) (found : ℕ) → Replied m found n → StandsFurther m found n
stands_further m n found replied w k call s step asked st =
    stands-more m n w k found call s step asked replied st
