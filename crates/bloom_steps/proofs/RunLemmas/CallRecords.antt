-- The records of a call among those of its party.
use Rattle.std.proofs.Common.{[], ◌++◌, ◌<◌, ◌∙◌, ◌∷◌, ◌≡◌, ◌≢◌, ◌⊎◌, List, Some, ap, arith, drop, inl, inr, length, slice_get, subst, suc, sym, take, zero, ℕ}
use Rattle.std.proofs.Math.Seq.{drop-append_seam}
use Rattle.bloom_steps.proofs.Common.{member-seam, none-some, same_Some, slice_get_within, Call, End, Running, Record, Began, Did, Step, IsBeginning, IsScript, Taken, CallAfterCall, call_records, did, party_of, records_of}
use Rattle.bloom_steps.proofs.RunLemmas.RecordedCalls.{of_call, which_of}
use Rattle.bloom_steps.proofs.RunLemmas.RunningCalls.{OneEnd, one_end-first}
use Rattle.bloom_steps.proofs.RunLemmas.PartyRecords.{mine_or_not, records_of-mine, records_of-none, records_of-other}

-- the script or beginning that follows a Began
pub record Segment (w k p : ℕ) (call : Call) (post : List Record) : Type 0 where
  pub s : List Taken
  pub later : List Record
  pub same : post ≡ did p s ++ later
  pub kind : IsScript w k call s ⊎ (IsBeginning w k call s × (later ≡ []))

-- each beginning among a party's records is followed by one
pub segment : (w k p : ℕ) (rs pre post : List Record) (call : Call) → CallAfterCall w k p rs
    → rs ≡ pre ++ Began p call ∷ post → Segment w k p call post
segment w k p rs pre post call calls e =
    let first = Began p call in
    let i = length pre in
    let here : slice_get rs i ≡ Some first =
    ap (λ l. slice_get l i) e ∙ member-seam pre post first in
    let of = of_call w k p rs i calls (slice_get_within rs i first here) in
    let own = call_records p of.call of.s ++ of.later in
    elim (which_of w k p rs i first of here) [
      | inl (at_first, is) ↦
          let place : i ≡ length of.earlier = omega (arith, of.at, at_first) in
          let both : first ∷ post ≡ own =
          sym (drop-append_seam pre (first ∷ post)) ∙ ap (drop i) (sym e ∙ of.all)
          ∙ ap (λ n. drop n (of.earlier ++ own)) place ∙ drop-append_seam of.earlier own in
          let same : of.call ≡ call = cc in
          record {
            s = of.s;
            later = of.later;
            same = cc;
            kind = subst (λ c. IsScript w k c of.s ⊎ (IsBeginning w k c of.s × (of.later ≡ [])))
                same of.kind;
          }
      | inr (j, t, place, got, is) ↦ absurd (cc)
    ]

-- up to the record at n a party's records don't end its call, and that at n does
pub record EndsAt (mid : List Record) (p n : ℕ) (last : Taken) : Type 0 where
  pub here : slice_get mid n ≡ Some (Did p last.step last.found last.ended)
  pub over : last.ended ≢ Running
  pub no_other : (m : ℕ) (c : Call) → m < n → slice_get mid m ≢ Some (Began p c)
  pub still : (m : ℕ) (step : Step) (found : ℕ) (e : End) → m < n
      → slice_get mid m ≡ Some (Did p step found e) → e ≡ Running

-- the end stands one record nearer after the first
later_end : (r : Record) (mid : List Record) (p n : ℕ) (last : Taken)
    → EndsAt (r ∷ mid) p (suc n) last → EndsAt mid p n last
later_end r mid p n last e = record {
  here = e.here;
  over = e.over;
  no_other = λ m c l. e.no_other (suc m) c (omega arith);
  still = λ m step found x l. e.still (suc m) step found x (omega arith);
}

-- the party's records up to there are the script's
pub front_is :
    (p : ℕ) (mid : List Record) (n : ℕ) (last : Taken) (s : List Taken) (later : List Record)
    → records_of p mid ≡ did p s ++ later → OneEnd s → EndsAt mid p n last
    → records_of p (take (suc n) mid) ≡ did p s
front_is p [] n last s later e o end = absurd (none-some _ end.here)
front_is p (r ∷ mid) n last [] later e o end = let some = o.some in absurd (omega arith)
front_is p (r ∷ mid) zero last (t ∷ s) later e o end =
    let is = same_Some _ _ end.here in
    let mine : party_of r ≡ p = ap party_of is in
    let own = sym (records_of-mine p r mid mine) ∙ e in
    let same : r ≡ Did p t.step t.found t.ended = cc in
    elim (one_end-first t s o) [
      | inl (running, more) ↦
          let ends : last.ended ≡ t.ended = (let both = sym is ∙ same in cc) in
          absurd (end.over (ends ∙ running))
      | inr (over, none) ↦ records_of-mine p r [] mine
          ∙ ap (λ l. r ∷ l) (records_of-none p) ∙ ap (λ x. x ∷ []) same
          ∙ ap (λ l. did p (t ∷ l)) (sym none)
    ]
front_is p (r ∷ mid) (suc n) last (t ∷ s) later e o end = elim (mine_or_not p r) [
  | inl mine ↦
      let own = sym (records_of-mine p r mid mine) ∙ e in
      let same : r ≡ Did p t.step t.found t.ended = cc in
      let tail : records_of p mid ≡ did p s ++ later = cc in
      elim (one_end-first t s o) [
        | inl (running, more) ↦ records_of-mine p r (take (suc n) mid) mine
            ∙ ap (λ x. x ∷ records_of p (take (suc n) mid)) same
            ∙ ap (λ l. Did p t.step t.found t.ended ∷ l)
            (front_is p mid n last s later tail more (later_end r mid p n last end))
        | inr (over, none) ↦
            absurd (over (end.still 0 t.step t.found t.ended (omega arith) (ap Some same)))
      ]
  | inr other ↦ records_of-other p r (take (suc n) mid) other
      ∙ front_is p mid n last (t ∷ s) later (sym (records_of-other p r mid other) ∙ e) o
      (later_end r mid p n last end)
]
