-- A step among a party's records goes on from its newest beginning.
use Rattle.std.proofs.Common.{[], ◌++◌, ◌+◌, ◌∙◌, ◌∷◌, ◌≡◌, ◌≤◌, ◌⊎◌, List, Some, ap, append_assoc, arith, drop, inl, inr, length, slice_get, subst, suc, sym, take, ℕ}
use Rattle.bloom_steps.proofs.Common.{member-seam, split-at, append-nil, slice_get_within, take-append-add, take-append-le, take-append_seam, Call, Record, Began, Did, IsBeginning, IsScript, Taken, CallAfterCall, call_records, did}
use Rattle.bloom_steps.proofs.RunLemmas.PartyRecords.{did-length, did-same, did-take, did_of-same}
use Rattle.bloom_steps.proofs.RunLemmas.RecordedCalls.{of_call, which_of}

-- the call that a step goes on with, after these records of its party
pub record GoesAfter (w k p : ℕ) (xs : List Record) (t : Taken) : Type 0 where
  pub earlier : List Record
  pub call : Call
  pub s : List Taken
  pub rest : List Taken
  pub same : xs ≡ earlier ++ Began p call ∷ did p s
  pub is : IsScript w k call (s ++ t ∷ rest)

-- a script, or a beginning of one, goes on to a script
goes_on : {w k : ℕ} {call : Call} {s : List Taken} {later : List Record}
    → IsScript w k call s ⊎ (IsBeginning w k call s × (later ≡ []))
    → (more : List Taken) × IsScript w k call (s ++ more)
goes_on {w} {k} {call} {s} kind = elim kind [
  | inl is ↦ ([], subst (IsScript w k call) (sym (append-nil s)) is)
  | inr (begun, newest) ↦ (begun.next ∷ begun.rest, begun.script)
]

-- a step among a party's records goes on with the call that began last
pub goes_after : (w k p : ℕ) (rs xs ys : List Record) (t : Taken) → CallAfterCall w k p rs
    → rs ≡ xs ++ Did p t.step t.found t.ended ∷ ys → GoesAfter w k p xs t
goes_after w k p rs xs ys t calls e =
    let r = Did p t.step t.found t.ended in
    let i = length xs in
    let here : slice_get rs i ≡ Some r = ap (λ l. slice_get l i) e ∙ member-seam xs ys r in
    let of = of_call w k p rs i calls (slice_get_within rs i r here) in
    let own = call_records p of.call of.s ++ of.later in
    elim (which_of w k p rs i r of here) [
      | inl (first, is) ↦ absurd (cc)
      | inr (j, u, place, got, is) ↦
          let same : u ≡ t = did_of-same p p u t (sym is) in
          let parts = split-at of.s j u got ∙ ap (λ v. take j of.s ++ v ∷ drop (suc j) of.s) same in
          let (more, script) = goes_on of.kind in
          let inside : j ≤ length (did p of.s) =
          omega (arith, of.within, place, did-length p of.s) in
          record {
            earlier = of.earlier;
            call = of.call;
            s = take j of.s;
            rest = drop (suc j) of.s ++ more;
            same =
                sym (take-append_seam xs (r ∷ ys)) ∙ ap (take i) (sym e ∙ of.all)
                ∙ ap (λ n. take n (of.earlier ++ own))
                (of.at ∙ ap (λ n. length of.earlier + n) place)
                ∙ take-append-add of.earlier own (suc j)
                ∙ ap (λ l. of.earlier ++ Began p of.call ∷ l)
                (take-append-le j (did p of.s) of.later inside ∙ did-take p j of.s);
            is =
                subst (IsScript w k of.call)
                (ap (λ l. l ++ more) parts
                ∙ append_assoc (take j of.s) (t ∷ drop (suc j) of.s) more) script;
          }
    ]

-- no records have no member
no_member : (xs ys : List Record) (r : Record) → [] ≡ xs ++ r ∷ ys → ⊥
no_member [] ys r e = cc
no_member (x ∷ xs) ys r e = cc

-- no beginning stands among steps
no_beginning : (p : ℕ) (s : List Taken) (xs ys : List Record) (call : Call)
    → did p s ≡ xs ++ Began p call ∷ ys → ⊥
no_beginning p [] xs ys call e = no_member xs ys (Began p call) e
no_beginning p (t ∷ s) [] ys call e = cc
no_beginning p (t ∷ s) (x ∷ xs) ys call e = no_beginning p s xs ys call (cc)

-- the newest beginning is one
pub newest-same : (p : ℕ) (xs ys : List Record) (a b : Call) (s u : List Taken)
    → xs ++ Began p a ∷ did p s ≡ ys ++ Began p b ∷ did p u → (a ≡ b) × (s ≡ u)
newest-same p [] [] a b s u e = (cc, did-same p s u (cc))
newest-same p [] (y ∷ ys) a b s u e = absurd (no_beginning p s ys (did p u) b (cc))
newest-same p (x ∷ xs) [] a b s u e = absurd (no_beginning p u xs (did p s) a (cc))
newest-same p (x ∷ xs) (y ∷ ys) a b s u e = newest-same p xs ys a b s u (cc)
