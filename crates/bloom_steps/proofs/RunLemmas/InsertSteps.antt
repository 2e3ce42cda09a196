-- Inserts of any kind: each step sets bits of a set, and the reply is false exactly if some step
-- found a bit clear that it sets. Such an insert tells of its own steps, in any interleaving.
use Rattle.std.proofs.Common.{◌&&◌, ◌+◌, ◌/◌, ◌<◌, ◌∙◌, ◌≡◌, ◌≤◌, ◌↔◌, Bool, List, None, Some, ap, eq-eqb, false, if◌then◌else◌, inl, inr, nat_eq, slice_get, subst, sym, true, unwrap_or, ℕ}
use Rattle.bloom_steps.proofs.Common.{both_ways, eqb-true, none-some, bit_is_on, End, Answer, Running, Did, Step, Or, Course, TurnsOneOn, moment, turns_on, AllButLast, Any, Each, Last, Taken, step_decides}
use Rattle.bloom_steps.proofs.RunLemmas.Changes.{DecidesOnly, and_cases, moment-more, or-decides_only, same-answer, turned_on, turning_on}
use Rattle.bloom_steps.proofs.RunLemmas.Scripted.{FindsBits, FoundBits, OwnSteps}

-- a step sets the bits of a mask
abbrev pub IsOr : Step → Type 0
IsOr step = (w : ℕ) × (mask : ℕ) × (step ≡ Or w mask)

-- a step sets a position
abbrev pub Sets : Step → ℕ → Type 0
Sets step p = step_decides step p ≡ Some true

-- a step found a position clear that it sets
abbrev pub FoundOff : Taken → Type 0
FoundOff t = (p : ℕ) × Sets t.step p × (bit_is_on t.found p ≡ false)

-- the steps of an insert of some positions
pub record InsertSteps (Is : ℕ → Type 0) (s : List Taken) : Type 0 where
  pub masks : Each s (λ i t. IsOr t.step)
  pub only : Each s (λ i t. (p : ℕ) → Sets t.step p → Is p)
  pub all : (p : ℕ) → Is p → Any s (λ i t. Sets t.step p)
  pub running : AllButLast s (λ i t. t.ended ≡ Running)
  pub last : Last s (λ i t. (reply : Bool) × (t.ended ≡ Answer reply)
      × ((reply ≡ false) ↔ Any s (λ j u. FoundOff u)))

-- which positions a mask sets
pub or-parts : (w mask p : ℕ) → Sets (Or w mask) p → (p / 64 ≡ w) × (bit_is_on mask p ≡ true)
or-parts w mask p sets = elim (and_cases (nat_eq (p / 64) w) (bit_is_on mask p)) [
  | inl both ↦ (eqb-true (p / 64) w both.0, both.1)
  | inr off ↦ absurd (none-some true (sym (ap (λ b. if b then Some true else None) off) ∙ sets))
]

-- a mask sets each of its positions
pub or-sets : (w mask p : ℕ) → p / 64 ≡ w → bit_is_on mask p ≡ true → Sets (Or w mask) p
or-sets w mask p at on =
    ap (λ b. if b && bit_is_on mask p then Some true else None) (eq-eqb (p / 64) w at)
    ∙ ap (λ b. if b then Some true else None) on

-- a step at a record
module _ (run : Course) (m party : ℕ) (t : Taken)
    (at : slice_get run.records m ≡ Some (Did party t.step t.found t.ended)) where
  -- a position that it decides to set is set after it
  pub set-after : (p : ℕ) → Sets t.step p → moment run (m + 1) p ≡ true
  set-after p sets =
      moment-more run m (Did party t.step t.found t.ended) p at
      ∙ ap (λ o. unwrap_or o (moment run m p)) sets

  -- it found each bit as it was that it decides to set
  pub set-found : FindsBits run → IsOr t.step → (p : ℕ) → Sets t.step p
      → bit_is_on t.found p ≡ moment run m p
  set-found finds (w, mask, is) p sets =
      let here = or-parts w mask p (sym (ap (λ x. step_decides x p) is) ∙ sets) in
      subst (λ x. FoundBits (moment run m) x t.found) is
      (finds m party t.step t.found t.ended at) p here.0

  -- it decides to set each position that it made set, which was clear
  pub set-by : IsOr t.step → (p : ℕ) → turns_on run m p ≡ true
      → Sets t.step p × (moment run m p ≡ false)
  set-by (w, mask, is) p on =
      let (off, after) = turned_on run m p on in (
        elim (subst (DecidesOnly (Some true) p) (sym is) (or-decides_only w mask p)) [
          | inl none ↦
              let stays =
              moment-more run m (Did party t.step t.found t.ended) p at
              ∙ ap (λ o. unwrap_or o (moment run m p)) none in
              absurd (both_ways (moment run m p) off (sym stays ∙ after))
          | inr sets ↦ sets
        ],
        off,
      )

-- the steps of an insert, in a course
module _ {run : Course} (finds : FindsBits run) {party began last : ℕ} {ended : End}
    {Is : ℕ → Type 0} {s : List Taken} (is : InsertSteps Is s)
    (own : OwnSteps run party began last ended s) where
  -- a step that found a position clear set it
  off-turns : (i : ℕ) (t : Taken) → slice_get s i ≡ Some t → FoundOff t
      → TurnsOneOn run party began last
  off-turns i t g (p, sets, off) =
      let at = own.to_record i t g in
      let was = sym (set-found run at.m party t at.is finds (is.masks i t g) p sets) ∙ off in
      record {
        m = at.m;
        p = p;
        ended = t.ended;
        later = at.later;
        upto = at.upto;
        own = record { step = t.step; found = t.found; here = at.is };
        on = turning_on run at.m p was (set-after run at.m party t at.is p sets);
      }

  -- a step that set a position found it clear
  turns-off : TurnsOneOn run party began last → Any s (λ i t. FoundOff t)
  turns-off turns =
      let t : Taken =
      record { step = turns.own.step; found = turns.own.found; ended = turns.ended } in
      let (i, g) = own.from_record turns.m t turns.later turns.upto turns.own.here in
      let or = is.masks i t g in
      let (sets, off) = set-by run turns.m party t turns.own.here or turns.p turns.on in
      let was = set-found run turns.m party t turns.own.here finds or turns.p sets in
      (i, t, g, (turns.p, sets, was ∙ off))

  -- an insert that ended tells of its own steps
  pub insert-tells : (answer : Bool) → ended ≡ Answer answer
      → (answer ≡ false) ↔ TurnsOneOn run party began last
  insert-tells answer with =
      let (says, is_end, tells) = is.last own.index own.final own.is_final own.closes in
      let same : answer ≡ says =
      same-answer answer says (sym with ∙ sym own.final_ended ∙ is_end) in (
        (λ no. let (i, t, g, off) = tells.0 (sym same ∙ no) in off-turns i t g off),
        (λ turns. same ∙ tells.1 (turns-off turns)),
      )

  -- each position was set by a record
  pub insert-covers : (p : ℕ) → Is p
      → (m : ℕ) × (began < m) × (m ≤ last) × (moment run (m + 1) p ≡ true)
  insert-covers p on =
      let (i, t, g, sets) = is.all p on in
      let at = own.to_record i t g in
      (at.m, at.later, at.upto, set-after run at.m party t at.is p sets)
