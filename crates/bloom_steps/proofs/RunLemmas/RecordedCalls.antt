-- Each record is of a call whose script, or a beginning of it, stands among the records.
use Rattle.bloom_steps.proofs.Common.{member-back, member-front, some_member, append-nil, append_assoc, cases_lt, length-append, plan_of, same_Some, slice_get_within, Call, End, Record, Began, Did, Step, IsBeginning, IsScript, Taken, CallAfterCall, Course, IsLawful, begun_call, call_records, did, last_leaves_running, no_call, party_of, records_of, runs, whole_call}
use Rattle.std.proofs.Common.{[], ◌++◌, ◌+◌, ◌-◌, ◌<◌, ◌∙◌, ◌≡◌, ◌≤◌, ◌⊎◌, List, Some, ap, arith, inl, inr, length, refl, slice_get, subst, suc, sym, true, ℕ}
use Rattle.bloom_steps.proofs.RunLemmas.RunningCalls.{newest-call, newest_kept, still_runs-beginning}
use Rattle.bloom_steps.proofs.RunLemmas.PartyRecords.{did-get, did-length, own_of_record, record_of_own}
use Rattle.bloom_steps.proofs.RunLemmas.PlacedSteps.{Holds, IsPlacedAt, placed}

-- the call of the record at an index, among its party's records, and the record's place in it;
-- where the call is only begun it is the newest
pub record OfCall (w k p : ℕ) (rs : List Record) (i : ℕ) : Type 0 where
  pub earlier : List Record
  pub call : Call
  pub s : List Taken
  pub later : List Record
  pub kind : IsScript w k call s ⊎ (IsBeginning w k call s × (later ≡ []))
  pub all : rs ≡ earlier ++ (call_records p call s ++ later)
  pub j : ℕ
  pub at : i ≡ length earlier + j
  pub within : j ≤ length s

-- each record of a party is one of a call
pub of_call : (w k p : ℕ) (rs : List Record) (i : ℕ) → CallAfterCall w k p rs → i < length rs
    → OfCall w k p rs i
of_call w k p _ i no_call below = absurd (omega (arith, below))
of_call w k p _ i (begun_call call s b) below = record {
  earlier = [];
  call = call;
  s = s;
  later = [];
  kind = inr (b, refl);
  all = sym (append-nil (call_records p call s));
  j = i;
  at = omega arith;
  within = omega (arith, below, did-length p s);
}
of_call w k p _ i (whole_call call s later is more) below =
    let own = call_records p call s in
    let steps = did-length p s in
    elim (cases_lt (length s) i) [
      | inl past ↦
          let both = length-append (did p s) later in
          let next =
          of_call w k p later (i - suc (length s)) more (omega (arith, below, steps, both, past)) in
          let longer = length-append (did p s) next.earlier in
          record {
            earlier = own ++ next.earlier;
            call = next.call;
            s = next.s;
            later = next.later;
            kind = next.kind;
            all = ap (λ l. own ++ l) next.all
                ∙ sym (append_assoc own next.earlier
                (call_records p next.call next.s ++ next.later));
            j = next.j;
            at = omega (arith, next.at, longer, steps, past);
            within = next.within;
          }
      | inr here ↦ record {
        earlier = [];
        call = call;
        s = s;
        later = later;
        kind = inl is;
        all = refl;
        j = i;
        at = omega arith;
        within = here;
      }
    ]

-- a record is the beginning of its call, or one of its steps
pub which_of : (w k p : ℕ) (rs : List Record) (i : ℕ) (r : Record) (of : OfCall w k p rs i)
    → slice_get rs i ≡ Some r
    → ((of.j ≡ 0) × (r ≡ Began p of.call)) ⊎ ((j : ℕ) × (t : Taken) × (of.j ≡ suc j)
    × (slice_get of.s j ≡ Some t) × (r ≡ Did p t.step t.found t.ended))
which_of w k p rs i r of g =
    let own = call_records p of.call of.s ++ of.later in
    let read : slice_get own of.j ≡ Some r =
    sym (ap (λ l. slice_get l i) of.all ∙ member-back of.earlier own of.j i of.at) ∙ g in
    elim (cases_lt 0 of.j) [
      | inl some ↦
          let j = of.j - 1 in
          let is : of.j ≡ suc j = omega (arith, some) in
          let (t, here) = some_member of.s j (omega (arith, of.within, is)) in
          let step = Did p t.step t.found t.ended in
          let stands = member-front (did p of.s) of.later step j (did-get p of.s j t here) in
          inr (j, t, is, here, same_Some _ _ (sym read ∙ ap (slice_get own) is ∙ stands))
      | inr none ↦
          let is : of.j ≡ 0 = omega (arith, none) in
          inl (is, same_Some _ _ (sym read ∙ ap (slice_get own) is))
    ]

-- a call that a party began, and a step's place in it
pub record HoldsStep (w k p : ℕ) (rs : List Record) (step : Step) : Type 0 where
  pub call : Call
  pub began : (n : ℕ) × (slice_get rs n ≡ Some (Began p call))
  pub j : ℕ
  pub at : IsPlacedAt w k (plan_of call) j step

-- a lawful run
module _ (k : ℕ) (run : Course) (lawful : IsLawful k run) where
  -- the call of a record, among all records
  pub held : (m : ℕ) (r : Record) → slice_get run.records m ≡ Some r
      → Holds (length run.start) k (party_of r) run.records (runs (party_of r) run.records) r
  held m r g =
      let w = length run.start in
      let p = party_of r in
      let rs = records_of p run.records in
      let (i, got) = own_of_record p run.records m r g refl in
      let of = of_call w k p rs i (lawful.calls p) (slice_get_within rs i r got) in
      let own = call_records p of.call of.s in
      let at : (n : ℕ) → slice_get rs (length of.earlier + n) ≡ slice_get (own ++ of.later) n =
      λ n. ap (λ l. slice_get l (length of.earlier + n)) of.all
      ∙ member-back of.earlier (own ++ of.later) n (length of.earlier + n) refl in
      record {
        call = of.call;
        s = of.s;
        began = record_of_own p run.records (length of.earlier + 0) (Began p of.call) (at 0);
        members = λ j t f.
            let step = Did p t.step t.found t.ended in
            record_of_own p run.records (length of.earlier + suc j) step
            (at (suc j) ∙ member-front (did p of.s) of.later step j (did-get p of.s j t f));
        kind = elim of.kind [
          | inl is ↦ inl is
          | inr (b, newest) ↦
              let running = newest-call p of.call of.s ∙ still_runs-beginning w k of.call of.s b in
              let last : last_leaves_running (own ++ of.later) ≡ true =
              ap (λ l. last_leaves_running (own ++ l)) newest
              ∙ ap last_leaves_running (append-nil own) ∙ running in
              inr
              (b, ap last_leaves_running of.all ∙ newest_kept of.earlier (own ++ of.later) last)
        ];
        which = elim (which_of w k p rs i r of got) [
          | inl (first, is) ↦ inl is
          | inr (j, t, place, here, is) ↦ inr (j, t, here, is)
        ];
      }

  -- the call of a step
  pub step_held : (m p : ℕ) (step : Step) (found : ℕ) (e : End)
      → slice_get run.records m ≡ Some (Did p step found e)
      → HoldsStep (length run.start) k p run.records step
  step_held m p step found e g =
      let w = length run.start in
      let h = held m (Did p step found e) g in
      elim h.which [
        | inl b ↦ absurd (cc)
        | inr (j, t, here, same) ↦
            let same_step : t.step ≡ step = cc in
            record {
              call = h.call;
              began = h.began;
              j = j;
              at =
                  subst (IsPlacedAt w k (plan_of h.call) j) same_step
                  (placed w k p run.records _ _ h j t here);
            }
      ]
