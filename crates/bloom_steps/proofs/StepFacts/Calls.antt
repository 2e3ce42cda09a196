-- What calls on words that threads share tell: cases that hold, and the nearest that don't. The
-- facts of steps are opaque, so each is told apart by its name.
use Rattle.std.proofs.Common.{◌≡◌, ◌∙◌, ◌↔◌, ℕ, ◌*◌, ◌/◌, ◌%◌, ◌^◌, List, [], ◌∷◌, get_or, length, map, Some, None, false, sym, subst, ap, refl, arith}
use Rattle.bloom_steps.proofs.Common.{none-some, chain, SharedWords, FoundByAnd, FoundByLoad, FoundByOr, FoundBySwap, InTurn, MadeZero, made-in_turn, place, And, Answer, Done, Insert, Load, Or, Other, Zero, EachInTurn, IsMade, MakesCallInTurn, MakesCallOn, MakesStepInSpan, Span, TakesWordsOf, WasInserted, WereInserted, Each, Linked, Taken, or_at}
use Rattle.bloom_steps.specs.declared.steps.vocabulary.Step.TheVariants.{Take}
use Rattle.bloom_steps.proofs.LiveLemmas.{insert-answers}
use Rattle.bloom_steps.proofs.StepFacts.Members.{one-step, took}
use Rattle.bloom_steps.proofs.StepLemmas.Finding.{ends-off}
use Rattle.bloom_steps.proofs.TakenLemmas.{taken-count}

-- a step is made on the filter's own words, but a load of the other's word on the other's
made : (words other : SharedWords) (before i mask found after : ℕ)
    → (IsMade words other before (Load i) found after
    ↔ InTurn (FoundByLoad words i found) before after)
    × (IsMade words other before (Or i mask) found after
    ↔ InTurn (FoundByOr words i mask found) before after)
    × (IsMade words other before (And i mask) found after
    ↔ InTurn (FoundByAnd words i mask found) before after)
    × (IsMade words other before (Zero i) found after
    ↔ (InTurn (MadeZero words i) before after × (found ≡ 0)))
    × (IsMade words other before (Other i) found after
    ↔ InTurn (FoundByLoad other i found) before after)
    × (IsMade words other before (Take i) found after
    ↔ InTurn (FoundBySwap words i found) before after)
made words other before i mask found after = (
  (λ is. is, λ is. is),
  (λ is. is, λ is. is),
  (λ is. is, λ is. is),
  (λ is. is, λ is. is),
  (λ is. is, λ is. is),
  (λ is. is, λ is. is),
)

-- a vector of one word
abbrev one : ℕ → SharedWords
one name = record { name = name; count = 1 }

-- the step of an insert of hash 0 with one hash, which found its bit clear
abbrev set : List Taken
set = took (Or 0 1) 0 (Answer false) ∷ []

-- two steps of an insert, each in its turn: the second begins where the first ended
abbrev SetTwo : SharedWords → ℕ → ℕ → ℕ → ℕ → Type 0
SetTwo words p q first last =
    (mid : ℕ) × (found : ℕ) × (other : ℕ)
    × InTurn (FoundByOr words (p / 64) (2 ^ (p % 64)) found) first mid
    × InTurn (FoundByOr words (q / 64) (2 ^ (q % 64)) other) mid last

-- the two steps of an insert with two hashes
two-steps : (words : SharedWords) (hash : ℕ) (s : List Taken) (first last : ℕ) → length s ≡ 2
    → Each s (λ i t. t.step ≡ or_at (place (64 * words.count) hash i))
    → Linked (IsMade words words) first s last
    → SetTwo words (place (64 * words.count) hash 0) (place (64 * words.count) hash 1) first last
two-steps words hash [] first last count steps made = absurd (omega (arith, count))
two-steps words hash (t ∷ []) first last count steps made = absurd (omega (arith, count))
two-steps words hash (t ∷ (u ∷ [])) first last count steps (mid, one, (end, two, is)) = (
  mid,
  t.found,
  u.found,
  subst (λ step. IsMade words words first step t.found mid) (steps 0 t refl) one,
  subst (λ step. IsMade words words mid step u.found last) (steps 1 u refl)
      (subst (λ n. IsMade words words mid u.step u.found n) (sym is) two),
)
two-steps words hash (t ∷ (u ∷ (v ∷ rest))) first last count steps made =
    absurd (omega (arith, count))

-- an insert with one hash, whose step found its bit clear, replies false; one with two hashes makes
-- two steps, also where its places coincide; and no insert has no reply
inserts : (name first last : ℕ)
    → (InTurn (FoundByOr (one name) 0 1 0) first last
    → MakesCallInTurn (one name) (one name) 1 (Insert 0) (Some false) first last)
    × ((hash : ℕ) → WasInserted (one name) 2 hash first last
    → SetTwo (one name) (place 64 hash 0) (place 64 hash 1) first last)
    × (MakesCallOn (one name) (one name) 1 (Insert 0) None → ⊥)
unfolding chain
inserts name first last = (
  λ did. record {
    did = record {
      taken = set;
      script = one-step 1 1 _ _ refl refl tt (ends-off 1 0 set 0 _ refl refl);
      first = first;
      last = last;
      made = (last, did, refl);
      answers = refl;
    };
    begins = refl;
    ends = refl;
  },
  λ hash (reply, is).
      let two = SetTwo (one name) (place 64 hash 0) (place 64 hash 1) in
      subst (λ turn. two turn last) is.begins
      (subst (two is.did.first) is.ends
      (two-steps (one name) hash is.did.taken is.did.first is.did.last is.did.script.count
      is.did.script.steps is.did.made)),
  λ calls. (let some = insert-answers 1 1 0 calls.taken (omega arith) calls.script in
      none-some some.0 (calls.answers ∙ some.1)),
)

-- of two calls in turn the second begins where the first ended, and no hash has none
in-turn : (Did : ℕ → ℕ → ℕ → Type 0) (first last : ℕ)
    → (Did 10 1 2 → Did 11 2 3 → EachInTurn Did (10 ∷ 11 ∷ []) 1 3)
    × (EachInTurn Did (10 ∷ 11 ∷ []) first last → (mid : ℕ) × Did 10 first mid × Did 11 mid last)
    × (EachInTurn Did [] first last → last ≡ first)
in-turn Did first last = (
  λ one two. (2, one, (3, two, refl)),
  λ (mid, one, (end, two, is)). (mid, one, subst (Did 11 mid) (sym is) two),
  λ is. is,
)

-- hashes were inserted by such calls
inserted : (words : SharedWords) (hashes : List ℕ)
    → (WasInserted words 1 10 1 2 → WereInserted words 1 (10 ∷ []))
    × ((all : WereInserted words 1 hashes)
    → EachInTurn (WasInserted words 1) hashes all.first all.last)
inserted words hashes = (
  λ one. record { first = 1; last = 2; each = (2, one, refl) },
  λ all. all.each,
)

-- the step of a take of one word
abbrev swap : ℕ → List Taken
swap word = took (Take 0) word Done ∷ []

-- a take of one word gives the word that its swap found, and no fewer
takes : (name first last word : ℕ)
    → (InTurn (FoundBySwap (one name) 0 word) first last → TakesWordsOf (one name) 1 (word ∷ []))
    × (TakesWordsOf (one name) 1 (word ∷ []) → FoundBySwap (one name) 0 word)
    × (TakesWordsOf (one name) 1 [] → ⊥)
takes name first last word = (
  λ did. record {
    made = record {
      taken = swap word;
      script = one-step 1 1 _ _ refl refl tt refl;
      first = first;
      last = last;
      made = (last, did, refl);
      answers = refl;
    };
    found = refl;
  },
  λ is. found is.made.taken is.made.first is.made.last is.found is.made.script.steps is.made.made,
  λ is. (let count = taken-count _ _ _ is in omega (arith, count)),
)
  where
    found : (s : List Taken) (first last : ℕ) → word ∷ [] ≡ map (λ t. t.found) s
        → Each s (λ i t. t.step ≡ Take i) → Linked (IsMade (one name) (one name)) first s last
        → FoundBySwap (one name) 0 word
    found [] first last same steps made = absurd (omega (arith, ap length same))
    found (t ∷ rest) first last same steps made =
        let is : t.found ≡ word = sym (ap (λ l. get_or l 0 0) same) in
        subst (FoundBySwap (one name) 0) is
        (made-in_turn first made.0
        (subst (λ step. IsMade (one name) (one name) first step t.found made.0) (steps 0 t refl)
        made.1))

-- words of a vector from one on, in a turn
abbrev span : ℕ → ℕ → ℕ → ℕ → Span
span name turn start count = record {
  lent = record { words = one name; other = one name; turn = turn };
  start = start;
  count = count;
}

-- a step of a span is one of all words, further on, and leaves the span as it was
steps : let makes = MakesStepInSpan (span 7 1 3 2) (Or 1 9) 5 in
    (InTurn (FoundByOr (one 7) 4 9 5) 1 2 → makes (span 7 2 3 2))
    × (makes (span 7 2 3 2) → InTurn (FoundByOr (one 7) 4 9 5) 1 2)
    × (makes (span 8 2 3 2) → ⊥)
    × (makes (span 7 2 4 2) → ⊥)
    × (makes (span 7 2 3 1) → ⊥)
steps = (
  λ did. ((did, refl, refl), refl, refl),
  λ is. is.0.0,
  λ is. omega (arith, ap (λ (words : SharedWords). words.name) is.0.1),
  λ is. omega (arith, is.1),
  λ is. omega (arith, is.2),
)
