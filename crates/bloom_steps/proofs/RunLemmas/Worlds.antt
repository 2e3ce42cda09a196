-- What a run keeps, event by event.
use Rattle.std.proofs.Common.{[], ◌++◌, ◌<◌, ◌^◌, ◌∙◌, ◌∷◌, ◌≡◌, ◌≤◌, Bool, List, None, Option, Some, ap, arith, false, inl, inr, length, refl, slice_index, slice_set, subst, sym, take, unwrap_or, ℕ}
use Rattle.bloom_steps.proofs.Common.{member_of_more, take-append_seam, set-get_or, take-append-le, none-some, slice_index_or, bit_is_on, content, Call, End, Record, Began, Did, Step, Other, Zero, Machine, StandsAt, asks, end_of, found_in, words_after_step, after_records, step_decides, word_index, FindsWhatIsThere, IsWordOf, MayFind, records_of, runs, AsksRight, StandsFurther, HasCalled, IsWorld, PartyAt, slot_runs}
use Rattle.bloom_steps.proofs.RunLemmas.PartyCalls.{parties-more, runs-party, step-party, step-within, whole-party}
use Rattle.bloom_steps.proofs.RunLemmas.PartyRecords.{records_of-none}
use Rattle.bloom_steps.proofs.StepLemmas.Deciding.{records-more}
use Rattle.bloom_steps.proofs.StepLemmas.Writing.{content-step, content-word, length-step}

-- the world before the first event
pub first_world : (k : ℕ) (start words : List ℕ) (machines : List (Option Machine))
    → 1 ≤ length start
    → length start < 2 ^ 58 → 1 ≤ k → words ≡ start
    → ((p : ℕ) → slice_index_or machines p None ≡ None)
    → IsWorld k start words machines []
first_world k start words machines some few hashes same none = record {
  some_words = some;
  few_words = few;
  some_hashes = hashes;
  finds = λ m party step found e g. absurd (none-some _ g);
  count = ap length same;
  bits = λ p. ap (λ l. content l p) same;
  parties =
      λ p.
      subst (λ o. PartyAt (length start) k p o (records_of p [])) (sym (none p))
      (records_of-none p);
}

-- records find what is there, also with one more that does
finds-more : (A : ℕ → Bool) (rs : List Record) (r : Record) → FindsWhatIsThere A rs
    → ((party : ℕ) (step : Step) (found : ℕ) (e : End) → r ≡ Did party step found e
    → MayFind (after_records A rs) step found)
    → FindsWhatIsThere A (rs ++ r ∷ [])
finds-more A rs r all here m party step found e g =
    elim (member_of_more rs r (Did party step found e) m g) [
      | inl p ↦
          let short = p.0 in
          subst (λ l. MayFind (after_records A l) step found)
          (sym (take-append-le m rs (r ∷ []) (omega arith))) (all m party step found e p.1)
      | inr q ↦
          let front : take m (rs ++ r ∷ []) ≡ rs =
          ap (λ n. take n (rs ++ r ∷ [])) q.0 ∙ take-append_seam rs (r ∷ []) in
          subst (λ l. MayFind (after_records A l) step found) (sym front)
          (here party step found e (sym q.1))
    ]

-- a word of the words is one of their content
is_word-read : (A : ℕ → Bool) (words : List ℕ) (i found : ℕ) → ((p : ℕ) → content words p ≡ A p)
    → found ≡ slice_index words i → found < 2 ^ 64 → IsWordOf A i found
is_word-read A words i found all e fits = record {
  fits = fits;
  bits = λ p at. ap (λ x. bit_is_on x p) e ∙ sym (content-word words i p at) ∙ all p;
}

-- what a step finds in words is what it may find in their content
pub may_find-read : (A : ℕ → Bool) (words : List ℕ) (given found : ℕ) (step : Step)
    → ((p : ℕ) → content words p ≡ A p)
    → found ≡ found_in words given step → found < 2 ^ 64 → MayFind A step found
may_find-read A words given found (Zero i) all e fits = e
may_find-read A words given found (Other i) all e fits = fits
may_find-read A words given found step all e fits =
    is_word-read A words (word_index step) found all e fits

-- a world, and a party of it
module _ (k : ℕ) (start words : List ℕ) (machines : List (Option Machine)) (rs : List Record)
    (world : IsWorld k start words machines rs) (p : ℕ) (within : p < length machines) where
  -- a party that runs no call begins one
  pub begin_keeps : (call : Call) (m : Machine) (count : ℕ) → count ≡ length words
      → slot_runs (slice_index_or machines p None) ≡ false → StandsAt m count k call []
      → IsWorld k start words (slice_set machines p (Some m)) (rs ++ Began p call ∷ [])
  begin_keeps call m count all off stands = record {
    some_words = world.some_words;
    few_words = world.few_words;
    some_hashes = world.some_hashes;
    finds =
        finds-more (content start) rs (Began p call) world.finds
        (λ party step found e f. absurd (cc));
    count = world.count;
    bits = λ q. world.bits q ∙ sym (records-more (content start) rs (Began p call) q);
    parties =
        parties-more (length start) k p machines rs (Began p call) m within refl world.parties
        (record {
          earlier = records_of p rs;
          call = call;
          taken = [];
          before =
              whole-party (length start) k p (slice_index_or machines p None) (records_of p rs)
              (world.parties p) off;
          stands = subst (λ n. StandsAt m n k call []) (all ∙ world.count) stands;
          same = refl;
        });
  }

  -- a machine that is written back as it was changes nothing
  pub slot_same : (m : Machine) → slice_index_or machines p None ≡ Some m
      → IsWorld k start words (slice_set machines p (Some m)) rs
  slot_same m slot =
      let same = sym (set-get_or machines p None) ∙ ap (slice_set machines p) slot in
      subst (λ l. IsWorld k start words l rs) same world

  -- a party that runs a call has a machine, which stands where its steps leave it
  called : (m : Machine) → slice_index_or machines p None ≡ Some m
      → HasCalled (length start) k p m (records_of p rs)
  called m slot = subst (λ o. PartyAt (length start) k p o (records_of p rs)) slot (world.parties p)

  -- the step that its machine asks for is on one of the words
  pub step_inside : (m : Machine) (step : Step) → slice_index_or machines p None ≡ Some m
      → AsksRight m (Some step)
      → word_index step < length words
  step_inside m step slot asks_right =
      subst (λ n. word_index step < n) (sym world.count)
      (step-within (length start) k p m (records_of p rs) step (called m slot) asks_right)

  -- a step that the party makes
  pub go_keeps : (given found : ℕ) (step : Step) (m n : Machine)
      → slice_index_or machines p None ≡ Some m
      → AsksRight m (Some step) → asks m ≡ Some step → found ≡ found_in words given step
      → found < 2 ^ 64
      → StandsFurther m found n
      → IsWorld k start (words_after_step words step) (slice_set machines p (Some n))
      (rs ++ Did p step found (end_of n) ∷ [])
  go_keeps given found step m n slot asks_right asked is fits further =
      let r = Did p step found (end_of n) in
      record {
        some_words = world.some_words;
        few_words = world.few_words;
        some_hashes = world.some_hashes;
        finds =
            finds-more (content start) rs r world.finds
            (λ party other it e f. here other it (cc) (cc));
        count = length-step words step ∙ world.count;
        bits = λ q.
            content-step words step q (step_inside m step slot asks_right)
            ∙ ap (unwrap_or (step_decides step q)) (world.bits q)
            ∙ sym (records-more (content start) rs r q);
        parties = parties-more (length start) k p machines rs r n within refl world.parties
            (step-party (length start) k p m n (records_of p rs) step found
            (called m slot) further asked);
      }
    where
      here : (other : Step) (it : ℕ) → step ≡ other → found ≡ it
          → MayFind (after_records (content start) rs) other it
      here other it e f =
          subst (λ x. MayFind (after_records (content start) rs) x it) e
          (subst (λ x. MayFind (after_records (content start) rs) step x) f
          (may_find-read
          (after_records (content start) rs) words given found step world.bits is fits))

  -- the party runs a call exactly if its machine does
  pub runs-slot : (o : Option Machine) → slice_index_or machines p None ≡ o
      → runs p rs ≡ slot_runs o
  runs-slot o slot =
      runs-party (length start) k p (slice_index_or machines p None) (records_of p rs)
      (world.parties p)
      ∙ ap slot_runs slot
