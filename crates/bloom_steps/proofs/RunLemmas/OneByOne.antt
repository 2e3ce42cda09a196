-- Calls made one at a time: the records are whole calls, one after the other.
use Rattle.std.proofs.Common.{[], ◌++◌, ◌<◌, ◌∙◌, ◌∷◌, ◌≡◌, List, ap, arith, length, length-append, refl, subst, suc, sym, zero, ℕ}
use Rattle.bloom_steps.proofs.Common.{append-nil, Call, Record, EveryCallEnded, OneAtATime, IsScript, Taken, Cut, MadeCall, cut, CallAfterCall, call_records, did, records_of}
use Rattle.bloom_steps.proofs.RunLemmas.Fronts.{FirstWhole, ended_later, first_whole, one_later}

-- whole calls, one after the other, of whatever parties
pub data OneByOne (w k : ℕ) : List Record → List MadeCall → Type 0 where
  no_more : OneByOne w k [] []
  next_call : (p : ℕ) (call : Call) (s : List Taken) (later : List Record) (made : List MadeCall)
      → IsScript w k call s
      → OneByOne w k later made
      → OneByOne w k (call_records p call s ++ later) (record { call = call; taken = s } ∷ made)

-- calls before which a whole call was made
module _ (w k : ℕ) (r : Record) (rest : List Record) (first : FirstWhole w k (r ∷ rest)) where
  -- the records of the call
  abbrev whole : List Record
  whole = call_records first.party first.call first.s

  -- the call has a record
  shorter : length first.after < length (r ∷ rest)
  shorter =
      let long = ap length first.same ∙ length-append whole first.after in omega arith

  -- the later calls, and before them the call
  with_first : (made : List MadeCall) → OneByOne w k first.after made
      → OneByOne w k (r ∷ rest) (record { call = first.call; taken = first.s } ∷ made)
  with_first made more =
      subst (λ l. OneByOne w k l (record { call = first.call; taken = first.s } ∷ made))
      (sym first.same)
      (next_call first.party first.call first.s first.after made first.is more)

  -- the later calls are made one at a time
  one_after : OneAtATime (r ∷ rest) → OneAtATime first.after
  one_after one = one_later whole first.after (subst OneAtATime first.same one)

  -- the later calls have ended
  ended_after : EveryCallEnded (r ∷ rest) → EveryCallEnded first.after
  ended_after ended = ended_later whole first.after (subst EveryCallEnded first.same ended)

-- w words and k hashes
module _ (w k : ℕ) where
  -- fewer records than a bound are whole calls, one after the other
  one_by_one_in : (n : ℕ) (rs : List Record) → length rs < n
      → ((q : ℕ) → CallAfterCall w k q (records_of q rs)) → OneAtATime rs
      → EveryCallEnded rs → (made : List MadeCall) × OneByOne w k rs made
  one_by_one_in zero rs l calls one ended = absurd (omega arith)
  one_by_one_in (suc n) [] l calls one ended = ([], no_more)
  one_by_one_in (suc size) (r ∷ rest) l calls one ended =
      let first = first_whole w k r rest calls one ended in
      let fewer = shorter w k r rest first in
      let (made, more) =
      one_by_one_in size first.after (omega arith) first.calls (one_after w k r rest first one)
      (ended_after w k r rest first ended) in
      (record { call = first.call; taken = first.s } ∷ made, with_first w k r rest first made more)

  -- all records are whole calls, one after the other
  pub one_by_one : (rs : List Record) → ((q : ℕ) → CallAfterCall w k q (records_of q rs))
      → OneAtATime rs → EveryCallEnded rs
      → (made : List MadeCall) × OneByOne w k rs made
  one_by_one rs calls one ended = one_by_one_in (suc (length rs)) rs (omega arith) calls one ended

-- the cut of such records is those calls
cut-did : (p : ℕ) (s : List Taken) (later : List Record)
    → cut (did p s ++ later) ≡ record { ahead = s ++ (cut later).ahead; calls = (cut later).calls }
cut-did p [] later = refl
cut-did p (t ∷ s) later =
    ap (λ (c : Cut). record { ahead = t ∷ c.ahead; calls = c.calls }) (cut-did p s later)

-- the cut of whole calls, one after the other, is those calls
pub cut-calls : (w k : ℕ) (rs : List Record) (made : List MadeCall) → OneByOne w k rs made
    → cut rs ≡ record { ahead = []; calls = made }
cut-calls w k _ _ no_more = refl
cut-calls w k _ _ (next_call p call s later made is more) =
    let rest = cut-calls w k later made more in
    ap
    (λ (c : Cut). record { ahead = []; calls = record { call = call; taken = c.ahead } ∷ c.calls })
    (cut-did p s later ∙ ap (λ (c : Cut). record { ahead = s ++ c.ahead; calls = c.calls }) rest
    ∙ ap (λ l. record { ahead = l; calls = made }) (append-nil s))
