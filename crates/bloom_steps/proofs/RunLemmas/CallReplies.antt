-- The answer of a whole call, alone, is its command's reply in the set before.
use Rattle.bloom_steps.proofs.Common.{some_member, take-more, TurnsOn, both_ways, cases_lt, false_from_ne_true, true_from_ne_false, slice_get_within, bit_is_on, are_in, place, End, Call, Contains, Insert, Did, AllFoundOn, IsScript, Taken, answer_of, answer_of_end, Any, IsLastEnd, command_of, after_records, step_decides, MayFind, did, are_in-off}
use Rattle.std.proofs.Common.{◌*◌, ◌+◌, ◌∙◌, ◌≡◌, ◌≤◌, Bool, List, None, Some, add-one, ap, arith, false, inl, inr, length, refl, slice_get, subst, suc, sym, take, true, unwrap_or, zero, ℕ, ◌<◌}
use Rattle.bloom_parts.specs.Operations.{reply}
use Rattle.bloom_steps.proofs.RunLemmas.CallSets.{contains-all, insert-all}
use Rattle.bloom_steps.proofs.RunLemmas.Changes.{or_at-decides}
use Rattle.bloom_steps.proofs.RunLemmas.CallSteps.{Fits, all_decide-take, steps-none, steps-on}
use Rattle.bloom_steps.proofs.RunLemmas.PartyRecords.{did-get, did-more, did-take}
use Rattle.bloom_steps.proofs.RunLemmas.Positions.{are_in-all, both_alike}
use Rattle.bloom_steps.proofs.StepLemmas.Deciding.{records-more}
use Rattle.bloom_steps.proofs.StepLemmas.Whole.{last-of, silent}

-- a script that a party makes alone
module _ (w k p : ℕ) (s : List Taken) (A : ℕ → Bool) (fits : Fits w A (did p s)) where
  -- a step finds what those before it left
  may_find_at : (i : ℕ) (t : Taken) → slice_get s i ≡ Some t
      → MayFind (after_records A (did p (take i s))) t.step t.found
  may_find_at i t g =
      subst (λ l. MayFind (after_records A l) t.step t.found) (did-take p i s)
      (fits.finds i p t.step t.found t.ended (did-get p s i t g))

  -- what the steps of an insert find is the set that those before left
  insert_found : (h i : ℕ) (t : Taken) → IsScript w k (Insert h) s → slice_get s i ≡ Some t
      → bit_is_on t.found (place (64 * w) h i) ≡ after_records A (did p (take i s))
      (place (64 * w) h i)
  insert_found h i t is g =
      (subst (λ x. MayFind (after_records A (did p (take i s))) x t.found) (is.steps i t g)
      (may_find_at i t g)).bits
      (place (64 * w) h i) refl

  -- what the steps of a look-up find is the set before
  contains_found : (h i : ℕ) (t : Taken) → IsScript w k (Contains h) s → slice_get s i ≡ Some t
      → bit_is_on t.found (place (64 * w) h i) ≡ A (place (64 * w) h i)
  contains_found h i t is g =
      let q = place (64 * w) h i in
      (subst (λ x. MayFind (after_records A (did p (take i s))) x t.found) (is.steps i t g)
      (may_find_at i t g)).bits q refl
      ∙ steps-none p (take i s) A q (all_decide-take s i q None (contains-all w k p s A h q is))

  -- a position that is clear before an insert whose steps all find their bits set stays clear
  stays_off : (h q n : ℕ) → IsScript w k (Insert h) s → A q ≡ false → AllFoundOn w h s
      → n ≤ length s
      → after_records A (did p (take n s)) q ≡ false
  stays_off h q zero is off all l = off
  stays_off h q (suc n) is off all l =
      let before = stays_off h q n is off all (omega arith) in
      let t = some_member s n (omega arith) in
      let r = place (64 * w) h n in
      let more = ap (λ m. take m s) (sym (add-one n)) ∙ take-more s n t.0 t.1 in
      let next = ap (did p) more ∙ did-more p (take n s) t.0 in
      ap (λ l. after_records A l q) next
      ∙ records-more A (did p (take n s)) (Did p t.0.step t.0.found t.0.ended) q
      ∙ ap (λ x. unwrap_or (step_decides x q) (after_records A (did p (take n s)) q))
      (is.steps n t.0 t.1)
      ∙ elim (or_at-decides r q) [
        | inl here ↦
            let was =
            insert_found h n t.0 is t.1 ∙ ap (after_records A (did p (take n s))) (sym here.0)
            ∙ before in
            absurd (both_ways (bit_is_on t.0.found r) was (all n t.0 t.1))
        | inr other ↦ ap (λ o. unwrap_or o (after_records A (did p (take n s)) q)) other.1 ∙ before
      ]

  -- where the steps of an insert found all their bits set, its positions were in the set before
  insert_all : (h : ℕ) → IsScript w k (Insert h) s → AllFoundOn w h s
      → are_in (64 * w) k h A ≡ true
  insert_all h is all =
      let n = 64 * w in
      let count = is.count in
      are_in-all n k h A (λ i below. true_from_ne_false (A (place n h i)) (λ off.
      let t = some_member s i (omega arith) in
      let was =
      insert_found h i t.0 is t.1 ∙ stays_off h (place n h i) i is off all (omega arith) in
      both_ways (bit_is_on t.0.found (place n h i)) was (all i t.0 t.1)))

  -- where a step of an insert found its bit clear, one of its positions wasn't in the set before
  insert_some : (h : ℕ) → IsScript w k (Insert h) s
      → Any s (λ i t. bit_is_on t.found (place (64 * w) h i) ≡ false)
      → are_in (64 * w) k h A ≡ false
  insert_some h is (i, t, here, off) =
      let n = 64 * w in
      let count = is.count in
      let q = place n h i in
      let inside = slice_get_within s i t here in
      let was : A q ≡ false = false_from_ne_true (A q) (λ hit.
      let all = all_decide-take s i q (Some true) (insert-all w k p s A h q is) in
      both_ways (bit_is_on t.found q) off
      (insert_found h i t is here ∙ steps-on p (take i s) A q all hit)) in
      are_in-off n k h A i (omega arith) was

  -- an insert answers whether its positions were all in the set before
  insert-answer : (h : ℕ) → 1 ≤ k → IsScript w k (Insert h) s
      → answer_of s ≡ Some (are_in (64 * w) k h A)
  insert-answer h some_hashes is =
      let last = last-of s (omega (arith, some_hashes, is.count)) in
      last.answers
      ∙ by_end last.step.ended (is.last last.index last.step last.stands last.is_last)
    where
      found_on : (says : Bool)
          → (Any s (λ i t. bit_is_on t.found (place (64 * w) h i) ≡ false) → says ≡ false)
          → says ≡ true → AllFoundOn w h s
      found_on says off on j t g =
          true_from_ne_false (bit_is_on t.found (place (64 * w) h j))
          (λ none. both_ways says (off (j, t, g, none)) on)

      by_end : (end : End) → IsLastEnd w (TurnsOn h) s end
          → answer_of_end end ≡ Some (are_in (64 * w) k h A)
      by_end end (says, is_end, tells) =
          ap answer_of_end is_end
          ∙ ap Some
          (both_alike says (are_in (64 * w) k h A)
          (λ on. insert_all h is (found_on says tells.1 on))
          (λ off. insert_some h is (tells.0 off)))

  -- where the last step of a look-up found its bit set, its positions were in the set before
  contains_all : (h m : ℕ) (last : Taken) → IsScript w k (Contains h) s → slice_get s m ≡ Some last
      → m + 1 ≡ length s → bit_is_on last.found (place (64 * w) h m) ≡ true
      → are_in (64 * w) k h A ≡ true
  contains_all h m last is g closes hit =
      let n = 64 * w in
      let reached : k ≤ m + 1 = elim (cases_lt (m + 1) k) [
        | inl l ↦
            let look = bit_is_on last.found (place n h m) in
            absurd (both_ways look (is.stops.early m last g closes l) hit)
        | inr l ↦ l
      ] in
      are_in-all n k h A (λ i below. elim (cases_lt i m) [
        | inl l ↦
            let t = some_member s i (omega arith) in
            sym (contains_found h i t.0 is t.1) ∙ is.stops.earlier i t.0 t.1 (omega arith)
        | inr l ↦
            let same : m ≡ i = omega arith in
            ap (λ j. A (place n h j)) (sym same) ∙ sym (contains_found h m last is g) ∙ hit
      ])

  -- a look-up answers whether its positions were in the set before
  contains-answer : (h : ℕ) → IsScript w k (Contains h) s
      → answer_of s ≡ Some (are_in (64 * w) k h A)
  contains-answer h is =
      let count = is.count in
      let last = last-of s count.0 in
      let m = last.index in
      let t = last.step in
      let closes = last.is_last in
      last.answers ∙ ap answer_of_end (is.last m t last.stands closes m t last.stands closes)
      ∙ ap Some (by_bit m t last.stands closes (omega arith))
    where
      by_bit : (m : ℕ) (last : Taken) → slice_get s m ≡ Some last → m + 1 ≡ length s → m < k
          → bit_is_on last.found (place (64 * w) h m) ≡ are_in (64 * w) k h A
      by_bit m last g closes below =
          both_alike (bit_is_on last.found (place (64 * w) h m)) (are_in (64 * w) k h A)
          (λ on. contains_all h m last is g closes on)
          (λ off. are_in-off (64 * w) k h A m below (sym (contains_found h m last is g) ∙ off))

  -- the answer of a whole call
  pub call-answer : (call : Call) (other : ℕ → Bool) → 1 ≤ k → IsScript w k call s
      → answer_of s ≡ reply (64 * w) k A (command_of call other)
  call-answer (Insert h) other some_hashes is = insert-answer h some_hashes is
  call-answer (Contains h) other some_hashes is = contains-answer h is
  call-answer call other some_hashes is = silent s is.last
