-- Growing runs of calls of any kind: where each step is one of an insert, a look-up or a union, the
-- end is the start, the inserts, and what was found in the other filter.
use Rattle.std.proofs.Common.{◌+◌, ◌/◌, ◌∙◌, ◌≡◌, ◌↔◌, ◌⊎◌, List, Some, ap, arith, false, inl, inr, refl, slice_get, subst, sym, true, ℕ}
use Rattle.bloom_steps.proofs.Common.{both_ways, none-some, slice_get_within, content, Call, Contains, Insert, Union, Record, Began, Did, Other, Course, IsFoundInOther, BitsTell, plan_of, turns_none_off, Taken, record_decides, step_decides}
use Rattle.bloom_steps.proofs.RunLemmas.Bounds.{NoneMakesOff, stays_to_end}
use Rattle.bloom_steps.proofs.RunLemmas.Changes.{DecidesOnly, or-decides_only}
use Rattle.bloom_steps.proofs.RunLemmas.InsertSteps.{Sets, or-parts, or-sets, set-after}
use Rattle.bloom_steps.proofs.RunLemmas.Kinds.{Kind}
use Rattle.bloom_steps.proofs.RunLemmas.Origins.{HasSteps, decider}

-- a call that clears nothing is an insert, a look-up or a union
of-grower : (P : Call → Type 0) → ((hash : ℕ) → P (Insert hash))
    → ((hash : ℕ) → P (Contains hash)) → P Union → (call : Call)
    → turns_none_off (plan_of call) ≡ true → P call
of-grower P ins look unites (Insert hash) passes = ins hash
of-grower P ins look unites (Contains hash) passes = look hash
of-grower P ins look unites Union passes = unites
of-grower P ins look unites call passes = absurd (both_ways false refl passes)

-- calls of a run, by their party and script
pub record Owners (kind : Kind) (run : Course) (Of : ℕ → Call → List Taken → Type 0) : Type 0 where
  pub is : (party : ℕ) (call : Call) (s : List Taken) → Of party call s → kind.Script call s
  pub members : (party : ℕ) (call : Call) (s : List Taken) → Of party call s
      → HasSteps run party s
  pub each : (m party : ℕ) (t : Taken)
      → slice_get run.records m ≡ Some (Did party t.step t.found t.ended)
      → (call : Call) × (s : List Taken) × Of party call s
      × (turns_none_off (plan_of call) ≡ true) × ((i : ℕ) × (slice_get s i ≡ Some t))

-- a course in which each step is one of a call that clears nothing
module _ (kind : Kind) (run : Course) (bits : BitsTell run)
    (Of : ℕ → Call → List Taken → Type 0) (owners : Owners kind run Of) where
  -- some insert has the position
  abbrev pub Inserted : ℕ → Type 0
  Inserted p = (party : ℕ) × (hash : ℕ) × (s : List Taken) × Of party (Insert hash) s
      × kind.Positions hash p

  -- no step clears a position
  none-makes-off : (p : ℕ) → NoneMakesOff run p
  none-makes-off p n party did found ended g =
      let t : Taken = record { step = did; found = found; ended = ended } in
      let (call, s, of, passes, (i, got)) = owners.each n party t g in
      of-grower (λ c. kind.Script c s → DecidesOnly (Some true) p did)
      (λ hash is.
      let (w, mask, or) = (kind.inserts hash s is).masks i t got in
      subst (DecidesOnly (Some true) p) (sym or) (or-decides_only w mask p))
      (λ hash is. inl (ap (λ x. step_decides x p) ((kind.look_ups hash s is).steps i t got)))
      (λ is. elim ((kind.unions s is).each i t got) [
        | inl load ↦ inl (ap (λ x. step_decides x p) load.1)
        | inr copy ↦
            let (j, u, h, (w, reads, or)) = copy in
            subst (DecidesOnly (Some true) p) (sym or) (or-decides_only w u.found p)
      ])
      call passes (owners.is party call s of)

  -- what a step turns on stays set to the end
  stays : (m p party : ℕ) (t : Taken)
      → slice_get run.records m ≡ Some (Did party t.step t.found t.ended) → Sets t.step p
      → content run.words p ≡ true
  stays m p party t g sets =
      let inside = slice_get_within run.records m _ g in
      stays_to_end run bits p (none-makes-off p) (m + 1) (omega (arith, inside))
      (set-after run m party t g p sets)

  -- a position that a step set is one of an insert, or was found in the other filter
  set-by : (m p : ℕ) (r : Record) → slice_get run.records m ≡ Some r
      → record_decides r p ≡ Some true → Inserted p ⊎ IsFoundInOther run p
  set-by m p (Began party call) g sets = absurd (none-some true sets)
  set-by m p (Did party did found ended) g sets =
      let t : Taken = record { step = did; found = found; ended = ended } in
      let (call, s, of, passes, (i, got)) = owners.each m party t g in
      of-grower (λ c. Of party c s → Inserted p ⊎ IsFoundInOther run p)
      (λ hash its.
      let is = owners.is party (Insert hash) s its in
      inl (party, hash, s, its, (kind.inserts hash s is).only i t got p sets))
      (λ hash its.
      let is = owners.is party (Contains hash) s its in
      let load = (kind.look_ups hash s is).steps i t got in
      absurd (none-some true (sym (ap (λ x. step_decides x p) load) ∙ sets)))
      (λ its. elim ((kind.unions s (owners.is party Union s its)).each i t got) [
        | inl load ↦
            absurd (none-some true (sym (ap (λ x. step_decides x p) load.1) ∙ sets))
        | inr copy ↦
            let (j, u, h, (w, reads, or)) = copy in
            let (word, on) = or-parts w u.found p (sym (ap (λ x. step_decides x p) or) ∙ sets) in
            let (n, here) = owners.members party Union s its j u h in
            inr (record {
              m = n;
              party = party;
              found = u.found;
              ended = u.ended;
              reads = here
                  ∙ ap (λ x. Some (Did party x u.found u.ended)) (reads ∙ ap Other (sym word));
              on = on;
            })
      ])
      call passes of

  -- a position of an insert is set in the end
  inserted-on : (p : ℕ) → Inserted p → content run.words p ≡ true
  inserted-on p (party, hash, s, of, position) =
      let (i, t, g, sets) =
      (kind.inserts hash s (owners.is party (Insert hash) s of)).all p position in
      let (n, here) = owners.members party (Insert hash) s of i t g in
      stays n p party t here sets

  -- a position that was found in the other filter is set in the end
  found-on : (p : ℕ) → IsFoundInOther run p → content run.words p ≡ true
  found-on p x =
      let party = x.party in
      let t : Taken = record { step = Other (p / 64); found = x.found; ended = x.ended } in
      let (call, s, of, passes, (i, got)) = owners.each x.m party t x.reads in
      of-grower (λ c. Of party c s → content run.words p ≡ true)
      (λ hash its.
      let (w, mask, or) =
      (kind.inserts hash s (owners.is party (Insert hash) s its)).masks i t got in absurd (cc))
      (λ hash its.
      let load = (kind.look_ups hash s (owners.is party (Contains hash) s its)).steps i t got in
      absurd (cc))
      (λ its.
      let (j, u, h, or) =
      (kind.unions s (owners.is party Union s its)).copied i t got (p / 64) refl in
      let (n, here) = owners.members party Union s its j u h in
      stays n p party u here
      (ap (λ y. step_decides y p) or ∙ or-sets (p / 64) x.found p refl x.on))
      call passes of

  -- in the end just the start, the inserts and what was found in the other filter are there
  pub ends : (Is : ℕ → Type 0) → ((p : ℕ) → Inserted p → Is p) → ((p : ℕ) → Is p → Inserted p)
      → (p : ℕ) → (content run.words p ≡ true)
      ↔ ((content run.start p ≡ true) ⊎ (Is p ⊎ IsFoundInOther run p))
  ends Is from to p = (
    (λ on. elim (decider (content run.start) run.records p (sym (bits p) ∙ on)) [
      | inl before ↦ inl before
      | inr by ↦ inr (elim (set-by by.0 p by.1 by.2 by.3) [
        | inl i ↦ inl (from p i)
        | inr o ↦ inr o
      ])
    ]),
    (λ x. elim x [
      | inl before ↦ stays_to_end run bits p (none-makes-off p) 0 (omega arith) before
      | inr y ↦ elim y [ inl i ↦ inserted-on p (to p i) | inr o ↦ found-on p o ]
    ]),
  )
