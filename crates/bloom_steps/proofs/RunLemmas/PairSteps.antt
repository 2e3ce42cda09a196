-- What the steps of a union or an intersection make of a set.
use Rattle.bloom_steps.proofs.StepLemmas.Plans.{TurnsBy, ReadsNoOther, made}
use Rattle.std.proofs.Common.{[], ◌*◌, ◌++◌, ◌+◌, ◌/◌, ◌<◌, ◌∙◌, ◌∷◌, ◌≡◌, ◌≤◌, Bool, List, None, Some, ap, arith, eq-eqb, false, if◌then◌else◌, inl, inr, length, refl, slice_get, suc, sym, unwrap_or, zero, ℕ}
use Rattle.bloom_steps.proofs.Common.{some_member, eqb_tells, get_or_from_slice_get, none-some, same_Some, slice_get_within, bit_is_on, content, content-past, Step, AreStepsOf, Taken, EachPair, found_in_other, other_words, after_records, step_decides, did}
use Rattle.bloom_steps.proofs.RunLemmas.CallSteps.{AllDecide, steps-some}
use Rattle.bloom_steps.proofs.StepLemmas.Going.{operates, parity, reads}
use Rattle.bloom_steps.proofs.StepLemmas.Writing.{content-word}

-- where each second step, from the first on, finds a word in the other filter, and the others none,
-- those words are what was found in it
words-of : (w : ℕ) (s : List Taken) → length s ≡ 2 * w
    → ((i : ℕ) (t : Taken) → slice_get s (2 * i) ≡ Some t
    → found_in_other t.step t.found ≡ t.found ∷ [])
    → ((i : ℕ) (t : Taken) → slice_get s (2 * i + 1) ≡ Some t
    → found_in_other t.step t.found ≡ [])
    → (2 * length (other_words s) ≡ length s)
    × ((i : ℕ) (t : Taken) → slice_get s (2 * i) ≡ Some t
    → slice_get (other_words s) i ≡ Some t.found)
words-of zero [] l reads writes = (refl, λ i t g. absurd (none-some t g))
words-of (suc w) (t ∷ (u ∷ rest)) l reads writes =
    let twice : (i : ℕ) → 2 * suc i ≡ suc (suc (2 * i)) = λ i. omega arith in
    let after : (i : ℕ) → 2 * suc i + 1 ≡ suc (suc (2 * i + 1)) = λ i. omega arith in
    let s = t ∷ (u ∷ rest) in
    let here : other_words s ≡ t.found ∷ other_words rest =
    ap (λ l. l ++ (found_in_other u.step u.found ++ other_words rest)) (reads 0 t refl)
    ∙ ap (λ l. t.found ∷ (l ++ other_words rest)) (writes 0 u refl) in
    let more =
    words-of w rest (omega (arith, l))
    (λ i v g. reads (suc i) v (ap (slice_get s) (twice i) ∙ g))
    (λ i v g. writes (suc i) v (ap (slice_get s) (after i) ∙ g)) in
    (omega (arith, more.0, ap length here), at here more.1)
  where
    at : other_words (t ∷ (u ∷ rest)) ≡ t.found ∷ other_words rest
        → ((i : ℕ) (v : Taken) → slice_get rest (2 * i) ≡ Some v
        → slice_get (other_words rest) i ≡ Some v.found)
        → (i : ℕ) (v : Taken) → slice_get (t ∷ (u ∷ rest)) (2 * i) ≡ Some v
        → slice_get (other_words (t ∷ (u ∷ rest))) i ≡ Some v.found
    at here more zero v g =
        ap (λ l. slice_get l 0) here ∙ ap (λ (x : Taken). Some x.found) (same_Some _ _ g)
    at here more (suc i) v g =
        let twice : 2 * suc i ≡ suc (suc (2 * i)) = omega arith in
        ap (λ l. slice_get l (suc i)) here
        ∙ more i v (sym (ap (slice_get (t ∷ (u ∷ rest))) twice) ∙ g)
words-of w s l reads writes = absurd (omega (arith, l))

-- a whole list of pairs
module _ (op : ℕ → ℕ → Step) (on : Bool) (by : TurnsBy op on) (plain : ReadsNoOther op) (w : ℕ)
    (s : List Taken) (steps : AreStepsOf w (EachPair op on) s) (l : length s ≡ 2 * w) where
  -- the words found in the other filter are those of the reads
  words-found : (2 * length (other_words s) ≡ length s)
      × ((i : ℕ) (t : Taken) → slice_get s (2 * i) ≡ Some t
      → slice_get (other_words s) i ≡ Some t.found)
  words-found =
      words-of w s l (λ i t g. ap (λ x. found_in_other x t.found) (reads w op on s steps i t g))
      (λ i u g.
      let within = slice_get_within s (2 * i + 1) u g in
      let (t, h) = some_member s (2 * i) (omega (arith, within)) in
      ap (λ x. found_in_other x u.found) (operates w op on s steps i t u h g)
      ∙ plain i t.found u.found)

  -- the bit of the other filter is that of the word which its load found
  other-bit : (q : ℕ) (t : Taken) → slice_get s (2 * (q / 64)) ≡ Some t
      → content (other_words s) q ≡ bit_is_on t.found q
  other-bit q t g =
      content-word (other_words s) (q / 64) q refl
      ∙ ap (λ x. bit_is_on x q)
      (get_or_from_slice_get (other_words s) (q / 64) t.found 0
      (words-found.1 (q / 64) t g))

  -- past the words the other filter has nothing set
  pub other-past : (q : ℕ) → w ≤ q / 64 → content (other_words s) q ≡ false
  other-past q past =
      content-past (other_words s) q (omega (arith, words-found.0, l, past))

  -- the write of a word decides as the other filter's bit says
  write-decides : (q i : ℕ) (t u : Taken) → slice_get s (2 * i) ≡ Some t → u.step ≡ op i t.found
      → q / 64 ≡ i
      → step_decides u.step q ≡ made on (content (other_words s) q)
  write-decides q i t u g e at =
      let here : slice_get s (2 * (q / 64)) ≡ Some t = ap (λ j. slice_get s (2 * j)) at ∙ g in
      ap (λ x. step_decides x q) e ∙ by i t.found q
      ∙ ap (λ b. if b then made on (bit_is_on t.found q) else None) (eq-eqb _ _ at)
      ∙ ap (made on) (sym (other-bit q t here))

  -- each step decides as the other filter's bit says, or nothing
  pairs-all : (q : ℕ) → AllDecide s q (made on (content (other_words s) q))
  pairs-all q j u g = elim (parity j) [
    | inl even ↦
        let here = ap (slice_get s) (sym even.1) ∙ g in
        inl (ap (λ x. step_decides x q) (reads w op on s steps even.0 u here))
    | inr odd ↦
        let i = odd.0 in
        let within = slice_get_within s j u g in
        let there = some_member s (2 * i) (omega (arith, odd.1)) in
        let e = operates w op on s steps i there.0 u there.1 (ap (slice_get s) (sym odd.1) ∙ g) in
        elim (eqb_tells (q / 64) i) [
          | inl here ↦ inr (write-decides q i there.0 u there.1 e here.1)
          | inr other ↦
              inl
              (ap (λ x. step_decides x q) e ∙ by i there.0.found q
              ∙ ap (λ b. if b then made on (bit_is_on there.0.found q) else None) other.0)
        ]
  ]

  -- within the words the pair of a position's word does decide it
  pub pairs-steps : (p : ℕ) (A : ℕ → Bool) (q : ℕ) → q / 64 < w
      → after_records A (did p s) q ≡ unwrap_or (made on (content (other_words s) q)) (A q)
  pairs-steps p A q inside =
      let t = some_member s (2 * (q / 64)) (omega arith) in
      let u = some_member s (2 * (q / 64) + 1) (omega arith) in
      let write = operates w op on s steps (q / 64) t.0 u.0 t.1 u.1 in
      steps-some p s A q (made on (content (other_words s) q)) (pairs-all q) (2 * (q / 64) + 1) u.0
      u.1 (write-decides q (q / 64) t.0 u.0 t.1 write refl)
