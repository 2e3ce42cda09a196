-- Steps of each plan over a store: at the places of a hash, at each word, and in pairs.
use Rattle.std.proofs.Common.{[], ◌*◌, ◌/◌, ◌%◌, ◌^◌, ◌++◌, ◌+◌, ◌<◌, ◌≤◌, ◌∙◌, ◌∷◌, ◌≡◌, ◌↔◌, ◌&&◌, ◌==◌, Bool, List, None, Some, ap, arith, false, true, inl, inr, length, refl, sym, ℕ}
use Rattle.bloom_steps.proofs.Common.{both_ways, bit_at, none-some, IsAt, chain, bit_is_on, index_of, place, End, Running, Done, Answer, Step, Or, Load, Other, EachPair, EachWord, LooksAt, TurnsOn, Any, DrivesPlan, Taken, or_at, load_at}
use Rattle.bloom_parts.specs.declared.hasher.chain.DoubleHasher.{DoubleHasher}
use Rattle.bloom_steps.proofs.StepLemmas.Driving.{HasGone, KeepsNothing, gone-next, gone-none, linked-more, made}
use Rattle.bloom_steps.proofs.StepLemmas.Finding.{none-more}
use Rattle.bloom_steps.proofs.StepLemmas.Growing.{FitsNext, goes_on-more, last_found-more, length-more, script-more}
use Rattle.bloom_steps.proofs.StepLemmas.Going.{step-even, step-odd}
use Rattle.bloom_steps.proofs.StepLemmas.Replying.{answer_of-more}

-- the word and the bit of a position are those of its place
place-at : (w n hash i h word bit : ℕ) → n ≡ w → h ≡ chain hash i
    → word ≡ index_of (64 * n) h / 64 → bit ≡ index_of (64 * n) h % 64
    → (word ≡ place (64 * w) hash i / 64) × (bit ≡ place (64 * w) hash i % 64)
place-at w n hash i h word bit all here is_word is_bit =
    let same : index_of (64 * n) h ≡ place (64 * w) hash i =
    ap (λ m. index_of (64 * m) h) all ∙ ap (index_of (64 * w)) here in
    (is_word ∙ ap (λ p. p / 64) same, is_bit ∙ ap (λ p. p % 64) same)

-- the test of a position's bit in the word found
bit-at : (p bit found : ℕ) → bit ≡ p % 64 → (bit_at found bit == 1) ≡ bit_is_on found p
bit-at p bit found is = ap (λ b. bit_at found b == 1) is

-- whether a step at each place of a hash so far found its bit set
abbrev pub TellsOn : ℕ → ℕ → Bool → List Taken → Type 0
TellsOn w hash all s =
    (all ≡ false) ↔ Any s (λ i t. bit_is_on t.found (place (64 * w) hash i) ≡ false)

-- stores with a number of words, and the steps between them, at the places of a hash
module _ {S : Type 0} (count : S → ℕ) (moved : S → Step → ℕ → S → Type 0) (k hash : ℕ) where
  -- the first i places were set, and the chain stands at the next one
  pub record HasSet (before now : S) (i : ℕ) (all : Bool) (c : DoubleHasher) : Type 0 where
    pub stands : IsAt hash i c
    pub gone : HasGone count moved k (TurnsOn hash) (TellsOn (count before) hash all) before now i
        (Some all)

  -- no place yet
  pub set-none : (store : S) (c : DoubleHasher) → 1 ≤ k → IsAt hash 0 c
      → HasSet store store 0 true c
  set-none store c some stands = record {
    stands = stands;
    gone =
        gone-none count moved k (TurnsOn hash) (TellsOn (count store) hash true) store (Some true)
        (omega (arith, some))
        (λ off. absurd (both_ways true off refl), λ some. absurd (none-some some.1 some.2));
  }

  -- one place more
  pub set-next : (before now after : S) (i n h word bit mask found : ℕ) (all on : Bool)
      (c d : DoubleHasher)
      → HasSet before now i all c → i < k → n ≡ count before → h ≡ chain hash i
      → word ≡ index_of (64 * n) h / 64 → bit ≡ index_of (64 * n) h % 64
      → mask ≡ 2 ^ bit
      → record { moved : moved now (Or word mask) found after; words : count after ≡ count now }
      → on ≡ (bit_at found bit == 1) → IsAt hash (i + 1) d
      → HasSet before after (i + 1) (all && on) d
  set-next before now after i n h word bit mask found all on c d set early words here is_word
      is_bit is_mask did is_on stands =
      let g = set.gone in
      let w = count before in
      let at = place-at w n hash i h word bit words here is_word is_bit in
      let p = place (64 * w) hash i in
      let turns : length g.taken ≡ i = g.turns in
      let fits : Or word mask ≡ or_at (place (64 * w) hash (length g.taken)) =
      ap (λ x. Or x mask) (at.0) ∙ ap (Or (p / 64)) (is_mask ∙ ap (λ b. 2 ^ b) (at.1))
      ∙ ap (λ j. or_at (place (64 * w) hash j)) (sym turns) in
      let here : on ≡ bit_is_on found (place (64 * w) hash (length g.taken)) =
      is_on ∙ bit-at p bit found (at.1)
      ∙ ap (λ j. bit_is_on found (place (64 * w) hash j)) (sym turns) in
      let tells = λ (e : End). none-more g.taken (made (Or word mask) found e)
      (λ j t. bit_is_on t.found (place (64 * w) hash j) ≡ false) all on g.keeps
      ((λ off. sym here ∙ off), (λ off. here ∙ off)) in
      record {
        stands = stands;
        gone =
            gone-next count moved k (TurnsOn hash) _ before now after g.taken (i + 1) _ g.words
            g.linked (g.goes_on early) (ap (λ j. j + 1) turns) (Or word mask) found fits did tells
            tt
            (λ last. (
              Answer (all && on),
              (ap (λ j. j + 1) turns ∙ last, (_, refl, tells _)),
              refl,
            ));
      }

-- stores with a number of words, and the steps between them, in a look-up
module _ {S : Type 0} (count : S → ℕ) (moved : S → Step → ℕ → S → Type 0) (k hash : ℕ)
    (before now after : S) (i n h word bit found : ℕ) (on : Bool)
    (gone : HasGone count moved k (LooksAt hash) KeepsNothing before now i (Some true))
    (early : i < k) (words : n ≡ count before) (here : h ≡ chain hash i)
    (is_word : word ≡ index_of (64 * n) h / 64) (is_bit : bit ≡ index_of (64 * n) h % 64)
    (did : record { moved : moved now (Load word) found after; words : count after ≡ count now })
    (is_on : on ≡ (bit_at found bit == 1))
  where
    -- whether the word found has the bit of the place
    found_on : ℕ → Bool
    found_on j = bit_is_on found (place (64 * count before) hash j)

    fits : Load word ≡ load_at (place (64 * count before) hash (length gone.taken))
    fits =
        let at = place-at (count before) n hash i h word bit words here is_word is_bit in
        ap Load (at.0) ∙ ap (λ j. load_at (place (64 * count before) hash j)) (sym gone.turns)

    tells : on ≡ found_on (length gone.taken)
    unfolding found_on
    tells =
        let at = place-at (count before) n hash i h word bit words here is_word is_bit in
        is_on ∙ bit-at (place (64 * count before) hash i) bit found (at.1)
        ∙ ap (λ j. bit_is_on found (place (64 * count before) hash j)) (sym gone.turns)

    -- a place that was found set
    pub look-next : on ≡ true
        → HasGone count moved k (LooksAt hash) KeepsNothing before after (i + 1) (Some true)
    unfolding found_on
    look-next test =
        let set : found_on (length gone.taken) ≡ true = sym tells ∙ test in
        let turns = ap (λ j. j + 1) gone.turns in
        gone-next count moved k (LooksAt hash) KeepsNothing before now after gone.taken (i + 1)
        (Some true) gone.words gone.linked (gone.goes_on early) turns (Load word) found fits did
        (λ end. tt) set
        (λ last. (Answer (found_on (length gone.taken)), (inr (turns ∙ last), refl), ap Some set))

    -- a place that was found clear ends the look-up
    pub look-off : on ≡ false
        → DrivesPlan moved (count before) k (LooksAt hash) before after (Some false)
    unfolding found_on
    look-off test =
        let clear : found_on (length gone.taken) ≡ false = sym tells ∙ test in
        let t = made (Load word) found (Answer false) in
        record {
          taken = gone.taken ++ t ∷ [];
          script =
              script-more (count before) k (LooksAt hash) gone.taken t (gone.goes_on early) fits
              (inl clear, ap Answer (sym clear));
          linked = linked-more moved before now after gone.taken t gone.linked did.moved;
          answers = sym (answer_of-more gone.taken t);
        }

-- stores with a number of words, and the steps between them, at each word
module _ {S : Type 0} (count : S → ℕ) (moved : S → Step → ℕ → S → Type 0) (k : ℕ) where
  -- one word more
  pub word-next : (op : ℕ → Step) (before now after : S) (i : ℕ)
      → HasGone count moved k (EachWord op) KeepsNothing before now i None → i < count before
      → (step : Step) (found : ℕ) → step ≡ op i
      → record { moved : moved now step found after; words : count after ≡ count now }
      → HasGone count moved k (EachWord op) KeepsNothing before after (i + 1) None
  word-next op before now after i gone early step found is did =
      let turns = ap (λ j. j + 1) gone.turns in
      gone-next count moved k (EachWord op) KeepsNothing before now after gone.taken (i + 1) None
      gone.words gone.linked (gone.goes_on early) turns step found
      (is ∙ ap op (sym gone.turns)) did (λ end. tt) tt (λ last. (Done, (turns ∙ last, refl), refl))

  -- one word more, by a read of the other's and a step with it
  pub pair-next : (op : ℕ → ℕ → Step) (on : Bool) (before now mid after : S) (i : ℕ)
      → HasGone count moved k (EachPair op on) KeepsNothing before now (2 * i) None
      → i < count before → (x y : ℕ)
      → record { moved : moved now (Other i) x mid; words : count mid ≡ count now }
      → (step : Step) → step ≡ op i x
      → record { moved : moved mid step y after; words : count after ≡ count mid }
      → HasGone count moved k (EachPair op on) KeepsNothing before after (2 * (i + 1)) None
  pair-next op on before now mid after i gone early x y read step is did =
      let w = count before in
      let plan = EachPair op on in
      let s = gone.taken in
      let turns : length s ≡ 2 * i = gone.turns in
      let t = made (Other i) x Running in
      let longer : length (s ++ t ∷ []) ≡ length s + 1 = length-more s t in
      let first : FitsNext w plan s (Other i) = sym (step-even w op on (length s) i _ turns) in
      let second : FitsNext w plan (s ++ t ∷ []) step =
      is ∙ ap (op i) (sym (last_found-more s t))
      ∙ sym (step-odd w op on (length (s ++ t ∷ [])) i _ (omega (arith, turns, longer))) in
      let all : length (s ++ t ∷ []) + 1 ≡ 2 * (i + 1) = omega (arith, turns, longer) in
      gone-next count moved k plan KeepsNothing before mid after (s ++ t ∷ []) (2 * (i + 1)) None
      (read.words ∙ gone.words) (linked-more moved before now mid s t gone.linked read.moved)
      (goes_on-more w k plan s t (gone.goes_on (omega (arith, early))) first refl
      (omega (arith, turns, early)) tt)
      all step y second did (λ end. tt) tt (λ last. (Done, (all ∙ last, refl), refl))
