-- Where a machine stands, what it asks and answers, and what is near that and doesn't hold.
use Rattle.std.proofs.Common.{[], ℕ, None, Some, true, false, refl, arith, lit<, ◌+◌, ◌*◌, ◌/◌, ◌%◌, ◌^◌, ◌∙◌, ap, sym, add-one}
use Rattle.bloom_steps.proofs.Common.{rotate_left, w64, place, Replied, none-some, chain, added_of, Load, Or, Insert, Machine, StandsAt, AsksRight, AnswersRight, StandsFurther}
use Rattle.bloom_steps.proofs.StepLemmas.Replying.{stands_further}
use Rattle.bloom_steps.proofs.StepLemmas.Asking.{asks_right}
use Rattle.bloom_steps.proofs.StepFacts.Scripts.{is_script}

-- an insert of hash 1 in one word with two hashes, at its beginning
abbrev pub begun : Machine
begun = record {
  call = Insert 1;
  num_words = 1;
  num_hashes = 2;
  turn = 0;
  chain = record { newest = 0x517c_c1b7_2722_0ab5; added = 0x517c_c1b7_2722_0a95 };
  place = 0;
  other = 0;
  all_on = true;
  ended = false;
  some_words = omega arith;
  few_words = lit< tt;
  some_hashes = omega arith;
  within = omega arith;
  room = λ e. omega arith;
}

-- an insert of hash 1 after a step that found its bit set
abbrev pub further : Machine
further = record begun {
  turn = 1;
  chain = record { newest = 0x8114_f89c_0b63_613f; added = 0x517c_c1b7_2722_0a95 };
  place = 20;
  within = omega arith;
  room = λ e. omega arith;
}

-- a new machine stands at the beginning of its call, and of no other
stands : StandsAt begun 1 2 (Insert 1) []
    × (StandsAt begun 1 2 (Insert 2) [] → ⊥)
unfolding chain
stands = (
  record {
    is_call = refl;
    words = refl;
    hashes = refl;
    turns = refl;
    placed = record { here = refl; chained = record { newest = refl; added = refl } };
    keeps = ((λ e. cc), (λ a. absurd (none-some _ a.2)));
    goes_on = λ e. record {
      room = omega arith;
      steps = λ i t g. absurd (none-some t g);
      keeps_on = tt;
      running = λ i t g. absurd (none-some t g);
    };
    whole = λ e. absurd (cc);
    said = refl;
  },
  (λ st. let call = st.is_call in cc),
)

-- after a step a machine stands one step further on, and not where it stood
further_on : StandsFurther begun 1 further
    × (StandsFurther begun 1 begun → ⊥)
unfolding chain
further_on = (
  stands_further begun further 1 next,
  (λ next. omega (arith, (next 1 2 (Insert 1) [] (Or 0 1) refl stands.0).turns)),
)
  where
    on : ℕ → ℕ
    on x = (rotate_left w64 x 5 + added_of 1) % 2 ^ 64

    next : Replied begun 1 further
    next = record {
      same_call = refl;
      same_words = refl;
      same_hashes = refl;
      turned = refl;
      learns = refl;
      ends = refl;
      moves_on = λ w i words at. record {
        here =
            ap (λ x. x * 64 / 2 ^ 64) at.chained.newest
            ∙ ap (λ v. place (64 * v) 1 (i + 1)) words;
        chained = record {
          newest = ap on at.chained.newest ∙ ap (chain 1) (sym (add-one (i + 1)));
          added = refl;
        };
      };
    }

-- wherever a new machine stands it asks for the bit of its place, and not for a load
asks : AsksRight begun (Some (Or 0 1))
    × (AsksRight begun (Some (Load 0)) → ⊥)
unfolding chain
asks = (
  asks_right begun (Some (Or 0 1)) refl,
  (λ told.
      let comes =
      (told 1 2 (Insert 1) [] stands.0).begun
      (record { next = _; rest = _; script = is_script.0 }) in
      let next = comes.next _ _ is_script.0 in
      let asked = comes.asks_it in
      cc),
)

-- a new machine answers nothing yet, and not that all bits were set
answers : AnswersRight begun None
    × (AnswersRight begun (Some true) → ⊥)
answers = (
  (λ w k call s st. record { says = sym st.said; begun = λ b. refl }),
  (λ told. let says = (told 1 2 (Insert 1) [] stands.0).says in cc),
)
