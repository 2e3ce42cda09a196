-- What one step does to the content of words.
use Rattle.std.proofs.Common.{[], ◌&&◌, ◌/◌, ◌<◌, ◌∙◌, ◌∷◌, ◌≡◌, ◌≢◌, ◌||◌, Bool, List, None, Option, Some, ap, bit_and, bit_or, eq-eqb, false, get_or-set_other, get_or-set_same, if◌then◌else◌, length, map, nat_eq, not, refl, slice_index, slice_set, sym, true, unwrap_or, ℕ}
use Rattle.bloom_steps.proofs.Common.{both_ways, eqb-true, length-set, bit_is_on, content, bit_is_on-and, bit_is_on-or, bit_is_on-zero, Step, And, Load, Or, Other, Zero, Memory, MemoryLaw, words_after_step, Taken, step_decides, word_index}
use Rattle.bloom_steps.specs.declared.steps.vocabulary.Step.TheVariants.{Take}
use Rattle.bloom_steps.proofs.StepLemmas.Deciding.{state-first, state-same}

-- a bit that is or-ed is set where a decision to set it is made, and else as it was
or-decides : (a b : Bool) → (a || b) ≡ unwrap_or (if b then Some true else None) a
or-decides true true = refl
or-decides true false = refl
or-decides false true = refl
or-decides false false = refl

-- a bit that is and-ed is clear where a decision to clear it is made, and else as it was
and-decides : (a b : Bool) → (a && b) ≡ unwrap_or (if not b then Some false else None) a
and-decides true true = refl
and-decides true false = refl
and-decides false true = refl
and-decides false false = refl

-- the content at the positions of one word
pub content-word : (words : List ℕ) (i p : ℕ) → p / 64 ≡ i
    → content words p ≡ bit_is_on (slice_index words i) p
unfolding content
content-word words i p at = ap (λ j. bit_is_on (slice_index words j) p) at

-- a write of one word decides the bits of that word alone
content-set : (words : List ℕ) (i x p : ℕ) (here : Bool) (o : Option Bool) → i < length words
    → nat_eq (p / 64) i ≡ here
    → bit_is_on x p ≡ unwrap_or o (bit_is_on (slice_index words i) p)
    → content (slice_set words i x) p ≡ unwrap_or (if here then o else None) (content words p)
unfolding content
content-set words i x p true o within e f =
    let at = eqb-true _ _ e in
    ap (λ j. bit_is_on (slice_index (slice_set words i x) j) p) at
    ∙ ap (λ y. bit_is_on y p) (get_or-set_same words i x 0 within) ∙ f
    ∙ ap (λ j. unwrap_or o (bit_is_on (slice_index words j) p)) (sym at)
content-set words i x p false o within e f =
    let apart : p / 64 ≢ i = λ at. both_ways (nat_eq (p / 64) i) e (eq-eqb _ _ at) in
    ap (λ y. bit_is_on y p) (get_or-set_other words i (p / 64) x 0 apart)

-- two tests, one after the other, are both at once
joined : (a b o : Bool)
    → (if a then (if b then Some o else None) else None) ≡ (if a && b then Some o else None)
joined true b o = refl
joined false b o = refl

-- the words after a step hold what the step decides
pub content-step : (words : List ℕ) (step : Step) (p : ℕ) → word_index step < length words
    → content (words_after_step words step) p ≡ unwrap_or (step_decides step p) (content words p)
content-step words (Load i) p within = refl
content-step words (Or i mask) p within =
    content-set words i (bit_or (slice_index words i) mask) p (nat_eq (p / 64) i)
    (if bit_is_on mask p then Some true else None)
    within refl
    (bit_is_on-or (slice_index words i) mask p
    ∙ or-decides (bit_is_on (slice_index words i) p) (bit_is_on mask p))
    ∙ ap (λ o. unwrap_or o (content words p)) (joined (nat_eq (p / 64) i) (bit_is_on mask p) true)
content-step words (And i mask) p within =
    content-set words i (bit_and (slice_index words i) mask) p (nat_eq (p / 64) i)
    (if not (bit_is_on mask p) then Some false else None)
    within refl
    (bit_is_on-and (slice_index words i) mask p
    ∙ and-decides (bit_is_on (slice_index words i) p) (bit_is_on mask p))
    ∙ ap (λ o. unwrap_or o (content words p))
    (joined (nat_eq (p / 64) i) (not (bit_is_on mask p)) false)
content-step words (Zero i) p within =
    content-set words i 0 p (nat_eq (p / 64) i) (Some false) within refl (bit_is_on-zero p)
content-step words (Other i) p within = refl
content-step words (Take i) p within =
    content-set words i 0 p (nat_eq (p / 64) i) (Some false) within refl (bit_is_on-zero p)

-- a step keeps the number of words
pub length-step : (words : List ℕ) (step : Step)
    → length (words_after_step words step) ≡ length words
length-step words (Load i) = refl
length-step words (Or i mask) = length-set words i _
length-step words (And i mask) = length-set words i _
length-step words (Zero i) = length-set words i 0
length-step words (Other i) = refl
length-step words (Take i) = length-set words i 0

-- steps in memory, one after the other
pub memory_law : MemoryLaw
memory_law before after [] link = record {
  set = λ p. ap (λ (m : Memory). content m.words p) link;
  count = ap (λ (m : Memory). length m.words) link;
  other_stays = ap (λ (m : Memory). m.other) link;
}
memory_law before after (t ∷ ts) link =
    let mid = link.0 in
    let moves = link.1 in
    let later = memory_law mid after ts link.2 in
    let deciders = map (λ (u : Taken). step_decides u.step) ts in
    let here : (p : ℕ) → content mid.words p ≡ unwrap_or (step_decides t.step p)
    (content before.words p) =
    λ p.
    ap (λ words. content words p) moves.writes
    ∙ content-step before.words t.step p moves.within in
    record {
      set = λ p.
          later.set p
          ∙ state-same (content mid.words)
          (λ q. unwrap_or (step_decides t.step q) (content before.words q)) deciders p (here p)
          ∙ sym (state-first (content before.words) (step_decides t.step) deciders p);
      count = later.count ∙ ap length moves.writes ∙ length-step before.words t.step;
      other_stays = later.other_stays ∙ moves.kept;
    }
