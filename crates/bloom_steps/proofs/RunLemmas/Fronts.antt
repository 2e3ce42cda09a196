-- While calls are made one at a time, a whole call stands in front of the records.
use Rattle.std.proofs.Common.{[], ◌++◌, ◌+◌, ◌∙◌, ◌∷◌, ◌≡◌, ◌≢◌, ◌≤◌, List, ap, arith, false, inl, inr, length, refl, subst, suc, sym, take, true, ℕ}
use Rattle.bloom_steps.proofs.Common.{take-append-add, both_ways, false_from_ne_true, eqb_tells, Call, Record, Began, Did, EveryCallEnded, OneAtATime, AllButLast, IsScript, Running, Taken, CallAfterCall, begun_call, call_records, did, last_leaves_running, leaves_running, party_of, records_of, runs, whole_call}
use Rattle.bloom_steps.proofs.RunLemmas.RunningCalls.{newest-call, runs_after, still_runs-beginning}
use Rattle.bloom_steps.proofs.RunLemmas.PartyRecords.{mine_or_not, records_of-mine, records_of-none, records_of-other}

-- calls made one at a time are made so in later records too
pub one_later : (xs ys : List Record) → OneAtATime (xs ++ ys) → OneAtATime ys
one_later xs ys one m p q a b = one (length xs + m) p q (more p a) (more q b)
  where
    more : (p : ℕ) → runs p (take m ys) ≡ true → runs p (take (length xs + m) (xs ++ ys)) ≡ true
    more p a = ap (runs p) (take-append-add xs ys m) ∙ runs_after p xs (take m ys) a

-- a call that has ended has ended in the later records
pub ended_later : (xs ys : List Record) → EveryCallEnded (xs ++ ys) → EveryCallEnded ys
ended_later xs ys ended p =
    false_from_ne_true (runs p ys)
    (λ on. both_ways (runs p (xs ++ ys)) (ended p) (runs_after p xs ys on))

-- a party's first record leaves its call running
first_begins : (w k p : ℕ) (r : Record) (rs : List Record) → CallAfterCall w k p (r ∷ rs)
    → leaves_running r ≡ true
first_begins w k p r rs (begun_call call s b) = refl
first_begins w k p r rs (whole_call call s later b c) = refl

-- while a call runs alone, the next record is its party's
next_own : (w k p : ℕ) (x r : Record) (rest : List Record) → OneAtATime (x ∷ (r ∷ rest))
    → party_of x ≡ p → leaves_running x ≡ true
    → ((q : ℕ) → q ≢ p → CallAfterCall w k q (records_of q (r ∷ rest))) → party_of r ≡ p
next_own w k p x r rest one mine on calls = elim (mine_or_not p r) [
  | inl same ↦ same
  | inr other ↦
      let q = party_of r in
      let starts =
      first_begins w k q r (records_of q rest)
      (subst (CallAfterCall w k q) (records_of-mine q r rest refl) (calls q other)) in
      let its : records_of p (x ∷ (r ∷ [])) ≡ x ∷ [] =
      records_of-mine p x (r ∷ []) mine
      ∙ ap (λ l. x ∷ l) (records_of-other p r [] other ∙ records_of-none p) in
      let next : records_of q (r ∷ []) ≡ r ∷ [] =
      records_of-mine q r [] refl ∙ ap (λ l. r ∷ l) (records_of-none q) in
      let a : runs p (x ∷ (r ∷ [])) ≡ true = ap last_leaves_running its ∙ on in
      let b : runs q (x ∷ (r ∷ [])) ≡ true =
      runs_after q (x ∷ []) (r ∷ []) (ap last_leaves_running next ∙ starts) in
      absurd (other (sym (one 2 p q a b)))
]

-- the steps of a call in front, and the records after it
record Front (p : ℕ) (s : List Taken) (later rest : List Record) : Type 0 where
  pub after : List Record
  pub same : rest ≡ did p s ++ after
  pub own : records_of p after ≡ later
  pub others : (q : ℕ) → q ≢ p → records_of q after ≡ records_of q rest

-- the records begin with the steps of the call that runs alone
front : (w k p : ℕ) (x : Record) (s : List Taken) (later rest : List Record)
    → AllButLast s (λ i t. t.ended ≡ Running) → party_of x ≡ p
    → (1 ≤ length s → leaves_running x ≡ true) → OneAtATime (x ∷ rest)
    → ((q : ℕ) → q ≢ p → CallAfterCall w k q (records_of q rest))
    → records_of p rest ≡ did p s ++ later → Front p s later rest
front w k p x [] later rest running mine on one calls e =
    record { after = rest; same = refl; own = e; others = λ q n. refl }
front w k p x (t ∷ s) later [] running mine on one calls e =
    let none = records_of-none p in absurd (cc)
front w k p x (t ∷ s) later (r ∷ rest) running mine on one calls e =
    let next = next_own w k p x r rest one mine (on (omega arith)) calls in
    let own = sym (records_of-mine p r rest next) ∙ e in
    let head : r ≡ Did p t.step t.found t.ended = cc in
    let tail : records_of p rest ≡ did p s ++ later = cc in
    let apart : (q : ℕ) → q ≢ p → records_of q (r ∷ rest) ≡ records_of q rest =
    λ q n. records_of-other q r rest (λ z. n (sym z ∙ next)) in
    let still : 1 ≤ length s → leaves_running r ≡ true =
    λ some. ap leaves_running head
    ∙ ap (λ e. leaves_running (Did p t.step t.found e)) (running 0 t refl (omega (arith, some))) in
    let more =
    front w k p r s later rest (λ i u g short. running (suc i) u g (omega (arith, short))) next
    still (one_later (x ∷ []) (r ∷ rest) one)
    (λ q n. subst (CallAfterCall w k q) (apart q n) (calls q n)) tail in
    record {
      after = more.after;
      same = ap (λ v. v ∷ rest) head ∙ ap (λ l. Did p t.step t.found t.ended ∷ l) more.same;
      own = more.own;
      others = λ q n. more.others q n ∙ sym (apart q n);
    }

-- the first call of a party whose calls have all ended
record First (w k p : ℕ) (r : Record) (rs : List Record) : Type 0 where
  pub call : Call
  pub s : List Taken
  pub later : List Record
  pub is : IsScript w k call s
  pub calls : CallAfterCall w k p later
  pub begins : r ≡ Began p call
  pub same : rs ≡ did p s ++ later

-- where no call runs in the end, the first is whole
first_call : (w k p : ℕ) (r : Record) (rs : List Record) → CallAfterCall w k p (r ∷ rs)
    → last_leaves_running (r ∷ rs) ≡ false
    → First w k p r rs
first_call w k p r rs (begun_call call s b) off =
    absurd (both_ways _ off (newest-call p call s ∙ still_runs-beginning w k call s b))
first_call w k p r rs (whole_call call s later b c) off =
    record { call = call; s = s; later = later; is = b; calls = c; begins = refl; same = refl }

-- the calls after the first call, which ran alone
calls_after : (w k p : ℕ) (s : List Taken) (later rest : List Record) (fr : Front p s later rest)
    → CallAfterCall w k p later
    → ((q : ℕ) → q ≢ p → CallAfterCall w k q (records_of q rest))
    → (q : ℕ) → CallAfterCall w k q (records_of q fr.after)
calls_after w k p s later rest fr own others q = elim (eqb_tells q p) [
  | inl same ↦
      subst (λ j. CallAfterCall w k j (records_of j fr.after)) (sym same.1)
      (subst (CallAfterCall w k p) (sym fr.own) own)
  | inr n ↦ subst (CallAfterCall w k q) (sym (fr.others q n.1)) (others q n.1)
]

-- records of a whole call, and the calls after it
pub record FirstWhole (w k : ℕ) (rs : List Record) : Type 0 where
  pub party : ℕ
  pub call : Call
  pub s : List Taken
  pub after : List Record
  pub is : IsScript w k call s
  pub same : rs ≡ call_records party call s ++ after
  pub calls : (q : ℕ) → CallAfterCall w k q (records_of q after)

-- where calls are made one at a time, the first record begins a whole call
pub first_whole : (w k : ℕ) (r : Record) (rest : List Record)
    → ((q : ℕ) → CallAfterCall w k q (records_of q (r ∷ rest))) → OneAtATime (r ∷ rest)
    → EveryCallEnded (r ∷ rest) → FirstWhole w k (r ∷ rest)
first_whole w k r rest calls one ended =
    let p = party_of r in
    let own = records_of-mine p r rest refl in
    let first =
    first_call w k p r (records_of p rest) (subst (CallAfterCall w k p) own (calls p))
    (sym (ap last_leaves_running own) ∙ ended p) in
    let others : (q : ℕ) → q ≢ p → CallAfterCall w k q (records_of q rest) =
    λ q n. subst (CallAfterCall w k q) (records_of-other q r rest (λ z. n (sym z))) (calls q) in
    let fr =
    front w k p r first.s first.later rest first.is.running refl
    (λ some. ap leaves_running first.begins) one others first.same in
    record {
      party = p;
      call = first.call;
      s = first.s;
      after = fr.after;
      is = first.is;
      same = ap (λ v. v ∷ rest) first.begins ∙ ap (λ l. Began p first.call ∷ l) fr.same;
      calls = calls_after w k p first.s first.later rest fr first.calls others;
    }
