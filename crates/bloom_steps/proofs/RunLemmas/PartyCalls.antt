-- A party of a run: its machine, and its records.
use Rattle.std.proofs.Common.{[], ◌++◌, ◌<◌, ◌∙◌, ◌∷◌, ◌≡◌, ◌≢◌, Bool, List, None, Option, Some, ap, append_assoc, false, get_or-set_other, get_or-set_same, inl, inr, length, refl, slice_set, subst, sym, true, ℕ}
use Rattle.bloom_steps.proofs.Common.{not-false, eqb_tells, append-nil, slice_index_or, Record, Began, Did, Step, Machine, asks, end_of, Taken, word_index, CallAfterCall, begun_call, call_records, did, last_leaves_running, no_call, party_of, records_of, whole_call, AsksRight, StandsFurther, AreWholeCalls, HasCalled, PartyAt, slot_runs}
use Rattle.bloom_steps.proofs.RunLemmas.RunningCalls.{newest-append, newest-call, still_runs-machine}
use Rattle.bloom_steps.proofs.RunLemmas.PartyRecords.{did-more, records_of-more, records_of-same}
use Rattle.bloom_steps.proofs.StepLemmas.Completing.{finish}
use Rattle.bloom_steps.proofs.StepLemmas.Asking.{asked-within}

-- a party among w words and k hashes
module _ (w k p : ℕ) where
  -- the party runs a call exactly if its machine does
  pub runs-party : (slot : Option Machine) (rs : List Record) → PartyAt w k p slot rs
      → last_leaves_running rs ≡ slot_runs slot
  runs-party None rs at = ap last_leaves_running at
  runs-party (Some m) rs at =
      ap last_leaves_running at.same ∙ newest-append at.earlier (did p at.taken) (Began p at.call)
      ∙ newest-call p at.call at.taken ∙ still_runs-machine m w k at.call at.taken at.stands

  -- the party's records are call after call
  pub calls-party : (slot : Option Machine) (rs : List Record) → PartyAt w k p slot rs
      → CallAfterCall w k p rs
  calls-party None rs at = subst (CallAfterCall w k p) (sym at) no_call
  calls-party (Some m) rs at =
      subst (CallAfterCall w k p) (sym at.same)
      (at.before (call_records p at.call at.taken) (go m.ended refl))
    where
      go : (b : Bool) → m.ended ≡ b → CallAfterCall w k p (call_records p at.call at.taken)
      go true is =
          subst (CallAfterCall w k p) (append-nil (call_records p at.call at.taken))
          (whole_call at.call at.taken [] (at.stands.whole is) no_call)
      go false is = begun_call at.call at.taken (finish w k at.call at.taken (at.stands.goes_on is))

  -- a party that runs no call has whole calls behind it
  pub whole-party : (slot : Option Machine) (rs : List Record) → PartyAt w k p slot rs
      → slot_runs slot ≡ false
      → AreWholeCalls w k p rs
  whole-party None rs at off later calls =
      subst (λ l. CallAfterCall w k p (l ++ later)) (sym at) calls
  whole-party (Some m) rs at off later calls =
      subst (λ l. CallAfterCall w k p (l ++ later)) (sym at.same)
      (subst (CallAfterCall w k p)
      (sym (append_assoc at.earlier (call_records p at.call at.taken) later))
      (at.before (call_records p at.call at.taken ++ later)
      (whole_call at.call at.taken later (at.stands.whole (not-false m.ended off)) calls)))

  -- a step that the party's machine asks for is on one of the words
  pub step-within : (m : Machine) (rs : List Record) (step : Step) → HasCalled w k p m rs
      → AsksRight m (Some step)
      → word_index step < w
  step-within m rs step at asks_right =
      asked-within w k at.call at.taken step (asks_right w k at.call at.taken at.stands)

  -- a step more of the party's call
  pub step-party : (m n : Machine) (rs : List Record) (step : Step) (found : ℕ)
      → HasCalled w k p m rs
      → StandsFurther m found n → asks m ≡ Some step
      → HasCalled w k p n (rs ++ Did p step found (end_of n) ∷ [])
  step-party m n rs step found at further asked =
      let t : Taken = record { step = step; found = found; ended = end_of n } in
      let r = Did p step found (end_of n) in
      record {
        earlier = at.earlier;
        call = at.call;
        taken = at.taken ++ t ∷ [];
        before = at.before;
        stands = further w k at.call at.taken step asked at.stands;
        same =
            ap (λ l. l ++ r ∷ []) at.same
            ∙ append_assoc at.earlier (call_records p at.call at.taken) (r ∷ [])
            ∙ ap (λ l. at.earlier ++ Began p at.call ∷ l) (sym (did-more p at.taken t));
      }

-- one party's slot and records change, and the others' stay
pub parties-more :
    (w k p : ℕ) (machines : List (Option Machine)) (rs : List Record) (r : Record) (m : Machine)
    → p < length machines → party_of r ≡ p
    → ((q : ℕ) → PartyAt w k q (slice_index_or machines q None) (records_of q rs))
    → PartyAt w k p (Some m) (records_of p rs ++ r ∷ [])
    → (q : ℕ)
    → PartyAt w k q (slice_index_or (slice_set machines p (Some m)) q None)
    (records_of q (rs ++ r ∷ []))
parties-more w k p machines rs r m within mine all here q =
    elim (eqb_tells q p) [
      | inl same ↦
          subst
          (λ j. PartyAt w k j (slice_index_or (slice_set machines p (Some m)) j None)
          (records_of j (rs ++ r ∷ [])))
          (sym same.1)
          (subst (λ o. PartyAt w k p o (records_of p (rs ++ r ∷ [])))
          (sym (get_or-set_same machines p (Some m) None within))
          (subst (λ l. PartyAt w k p (Some m) l) (sym (records_of-more p rs r mine)) here))
      | inr other ↦
          let apart : party_of r ≢ q = λ e. other.1 (sym e ∙ mine) in
          subst (λ o. PartyAt w k q o (records_of q (rs ++ r ∷ [])))
          (sym (get_or-set_other machines p q (Some m) None other.1))
          (subst (λ l. PartyAt w k q (slice_index_or machines q None) l)
          (sym (records_of-same q rs r apart)) (all q))
    ]
