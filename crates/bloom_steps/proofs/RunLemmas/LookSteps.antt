-- Look-ups of any kind: each step loads the word of the next position, up to the first that is
-- found clear. What such a look-up tells, in any interleaving.
use Rattle.std.proofs.Common.{◌+◌, ◌<◌, ◌∙◌, ◌≡◌, ◌≤◌, Bool, List, Some, ap, arith, false, inl, inr, length, refl, slice_get, subst, sym, true, ℕ}
use Rattle.bloom_steps.proofs.Common.{some_member, both_ways, eqb_tells, same_Some, slice_get_within, bit_is_on, Answer, Running, Did, Course, moment, AllButLast, Each, Last, Taken, load_at}
use Rattle.bloom_steps.proofs.RunLemmas.Changes.{same-answer}
use Rattle.bloom_steps.proofs.RunLemmas.Scripted.{FindsBits, FoundBits, OwnSteps}

-- the steps of a look-up of k positions
pub record LookSteps (k : ℕ) (at : ℕ → ℕ) (s : List Taken) : Type 0 where
  pub count : length s ≤ k
  pub steps : Each s (λ i t. t.step ≡ load_at (at i))
  pub earlier : AllButLast s (λ i t. bit_is_on t.found (at i) ≡ true)
  pub early : Last s (λ i t. i + 1 < k → bit_is_on t.found (at i) ≡ false)
  pub running : AllButLast s (λ i t. t.ended ≡ Running)
  pub last : Last s (λ i t. t.ended ≡ Answer (bit_is_on t.found (at i)))

-- the steps of a look-up, in a course
module _ {run : Course} (finds : FindsBits run) {party began last : ℕ} {answer : Bool} {k : ℕ}
    {at : ℕ → ℕ} {s : List Taken} (is : LookSteps k at s)
    (own : OwnSteps run party began last (Answer answer) s) where
  -- what a step at a record found is the bit at that moment
  looked : (i : ℕ) (t : Taken) → slice_get s i ≡ Some t → (m : ℕ)
      → slice_get run.records m ≡ Some (Did party t.step t.found t.ended)
      → bit_is_on t.found (at i) ≡ moment run m (at i)
  looked i t g m here =
      subst (λ x. FoundBits (moment run m) x t.found) (is.steps i t g)
      (finds m party t.step t.found t.ended here) (at i) refl

  -- it returns the last bit that it looked at
  last-bit : answer ≡ bit_is_on own.final.found (at own.index)
  last-bit =
      same-answer answer _
      (sym own.final_ended ∙ is.last own.index own.final own.is_final own.closes)

  -- it returns the bit that it looked at last, as it was before its last step
  pub last-tells : answer ≡ moment run last (at own.index)
  last-tells = last-bit ∙ looked own.index own.final own.is_final last own.at_last

  -- it looked at one of the positions last
  pub last-below : own.index < k
  last-below =
      let closes = own.closes in
      let count = is.count in
      omega arith

  -- where it returns true, each position was found set by a record
  pub found-on : answer ≡ true → (i : ℕ) → i < k
      → (m : ℕ) × (began < m) × (m ≤ last) × (moment run m (at i) ≡ true)
  found-on hit i below =
      let closes = own.closes in
      let reached : k ≤ length s = elim (eqb_tells k (length s)) [
        | inl y ↦ let same = y.1 in omega arith
        | inr n ↦
            let apart = n.1 in
            let count = is.count in
            let off = is.early own.index own.final own.is_final closes (omega arith) in
            absurd (both_ways answer (last-bit ∙ off) hit)
      ] in
      let (t, g) = some_member s i (omega arith) in
      let its = own.to_record i t g in
      let on : bit_is_on t.found (at i) ≡ true = elim (eqb_tells (i + 1) (length s)) [
        | inl y ↦
            let end = y.1 in
            let same : own.index ≡ i = omega arith in
            let member : own.final ≡ t =
            same_Some _ _ (sym own.is_final ∙ ap (slice_get s) same ∙ g) in
            sym (ap (λ (u : Taken). bit_is_on u.found (at i)) member)
            ∙ sym (ap (λ j. bit_is_on own.final.found (at j)) same)
            ∙ sym last-bit ∙ hit
        | inr n ↦
            let apart = n.1 in
            let within = slice_get_within s i t g in
            is.earlier i t g (omega arith)
      ] in
      (its.m, its.later, its.upto, sym (looked i t g its.m its.is) ∙ on)
