-- The records of one party among all.
use Rattle.std.proofs.Common.{[], ◌++◌, ◌∙◌, ◌∷◌, ◌≡◌, ◌≢◌, ◌==◌, ◌⊎◌, List, Some, ap, option_map, eq-eqb, if◌then◌else◌, inl, inr, refl, slice_get, subst, suc, sym, take, zero, ℕ}
use Rattle.std.proofs.lemmas.List.{map-append, take-map}
use Rattle.std.proofs.lemmas.List.Elements.{filter-append}
use Rattle.std.proofs.lemmas.Option.{slice_get-map}
use Rattle.bloom_steps.proofs.Common.{eqb_tells, append-nil, length, length-map, none-some, same_Some, Record, Began, Did, Taken, did, party_of, records_of}

-- a record of the party's own stays
pub records_of-mine : (p : ℕ) (r : Record) (rs : List Record) → party_of r ≡ p
    → records_of p (r ∷ rs) ≡ r ∷ records_of p rs
unfolding records_of
records_of-mine p r rs e =
    ap (λ b. if b then r ∷ records_of p rs else records_of p rs) (eq-eqb _ _ e)

-- a record of another party goes
pub records_of-other : (p : ℕ) (r : Record) (rs : List Record) → party_of r ≢ p
    → records_of p (r ∷ rs) ≡ records_of p rs
unfolding records_of
records_of-other p r rs ne =
    elim (eqb_tells (party_of r) p) [
      | inl y ↦ absurd (ne y.1)
      | inr n ↦ ap (λ b. if b then r ∷ records_of p rs else records_of p rs) n.0
    ]

-- a party has none of no records
pub records_of-none : (p : ℕ) → records_of p [] ≡ []
unfolding records_of
records_of-none p = refl

-- a record is a party's own or not
pub mine_or_not : (p : ℕ) (r : Record) → (party_of r ≡ p) ⊎ (party_of r ≢ p)
mine_or_not p r = elim (eqb_tells (party_of r) p) [ inl y ↦ inl y.1 | inr n ↦ inr n.1 ]

-- a party's own records of two lists, one after the other
pub records_of-append : (p : ℕ) (xs ys : List Record)
    → records_of p (xs ++ ys) ≡ records_of p xs ++ records_of p ys
unfolding records_of
records_of-append p xs ys = filter-append (λ r. party_of r == p) xs ys

-- members of a party's records are records
own_at : (p : ℕ) (x : Record) (xs : List Record) (i : ℕ) (r : Record)
    → ((j : ℕ) → slice_get (records_of p xs) j ≡ Some r → (m : ℕ) × (slice_get xs m ≡ Some r))
    → slice_get (x ∷ records_of p xs) i ≡ Some r → (m : ℕ) × (slice_get (x ∷ xs) m ≡ Some r)
own_at p x xs zero r rec f = (0, f)
own_at p x xs (suc j) r rec f = let rest = rec j f in (suc rest.0, rest.1)

-- a party's own record stands among all
pub record_of_own : (p : ℕ) (xs : List Record) (i : ℕ) (r : Record)
    → slice_get (records_of p xs) i ≡ Some r → (m : ℕ) × (slice_get xs m ≡ Some r)
record_of_own p [] i r e =
    absurd (none-some r (subst (λ l. slice_get l i ≡ Some r) (records_of-none p) e))
record_of_own p (x ∷ xs) i r e =
    elim (mine_or_not p x) [
      | inl y ↦
          own_at p x xs i r (λ j f. record_of_own p xs j r f)
          (subst (λ l. slice_get l i ≡ Some r) (records_of-mine p x xs y) e)
      | inr n ↦
          let rest =
          record_of_own p xs i r
          (subst (λ l. slice_get l i ≡ Some r) (records_of-other p x xs n) e) in
          (suc rest.0, rest.1)
    ]

-- a record of the party stands among its own
pub own_of_record : (p : ℕ) (xs : List Record) (m : ℕ) (r : Record) → slice_get xs m ≡ Some r
    → party_of r ≡ p → (i : ℕ) × (slice_get (records_of p xs) i ≡ Some r)
own_of_record p [] m r e y = absurd (none-some r e)
own_of_record p (x ∷ xs) zero r e y =
    let same = same_Some _ _ e in
    (0, subst (λ l. slice_get l 0 ≡ Some r) (sym (records_of-mine p x xs (ap party_of same ∙ y))) e)
own_of_record p (x ∷ xs) (suc m) r e y =
    let rest = own_of_record p xs m r e y in
    elim (mine_or_not p x) [
      | inl z ↦ (
        suc rest.0,
        subst (λ l. slice_get l (suc rest.0) ≡ Some r) (sym (records_of-mine p x xs z)) rest.1,
      )
      | inr n ↦ (
        rest.0,
        subst (λ l. slice_get l rest.0 ≡ Some r) (sym (records_of-other p x xs n)) rest.1,
      )
    ]

-- one more record of the party's own
pub records_of-more : (p : ℕ) (rs : List Record) (r : Record) → party_of r ≡ p
    → records_of p (rs ++ r ∷ []) ≡ records_of p rs ++ r ∷ []
records_of-more p rs r e =
    records_of-append p rs (r ∷ [])
    ∙ ap (λ l. records_of p rs ++ l)
    (records_of-mine p r [] e ∙ ap (λ l. r ∷ l) (records_of-none p))

-- one more record of another party
pub records_of-same : (p : ℕ) (rs : List Record) (r : Record) → party_of r ≢ p
    → records_of p (rs ++ r ∷ []) ≡ records_of p rs
records_of-same p rs r e =
    records_of-append p rs (r ∷ [])
    ∙ ap (λ l. records_of p rs ++ l) (records_of-other p r [] e ∙ records_of-none p)
    ∙ append-nil (records_of p rs)

-- the step of a record
abbrev taken_of : Taken → Record → Taken
taken_of t (Began p call) = t
taken_of t (Did p step found ended) = record { step = step; found = found; ended = ended }

-- one record is of one step
pub did_of-same : (p q : ℕ) (t u : Taken)
    → Did p t.step t.found t.ended ≡ Did q u.step u.found u.ended → t ≡ u
did_of-same p q t u e = ap (taken_of t) e

-- the record of a step
abbrev record_by : ℕ → Taken → Record
record_by p t = Did p t.step t.found t.ended

-- each step has a record
pub did-length : (p : ℕ) (s : List Taken) → length (did p s) ≡ length s
did-length p s = length-map s (record_by p)

-- the records of steps, member by member
pub did-get : (p : ℕ) (s : List Taken) (i : ℕ) (t : Taken) → slice_get s i ≡ Some t
    → slice_get (did p s) i ≡ Some (Did p t.step t.found t.ended)
did-get p s i t e = slice_get-map (record_by p) s i ∙ ap (option_map (record_by p)) e

-- a record of steps is of the step at its place
pub did-got : (p : ℕ) (s : List Taken) (i q : ℕ) (t : Taken)
    → slice_get (did p s) i ≡ Some (Did q t.step t.found t.ended) → slice_get s i ≡ Some t
did-got p [] i q t e = absurd (none-some _ e)
did-got p (u ∷ s) zero q t e = ap Some (did_of-same p q u t (same_Some _ _ e))
did-got p (u ∷ s) (suc i) q t e = did-got p s i q t e

-- the records of one step more
pub did-more : (p : ℕ) (s : List Taken) (t : Taken)
    → did p (s ++ t ∷ []) ≡ did p s ++ Did p t.step t.found t.ended ∷ []
did-more p s t = map-append (record_by p) s (t ∷ [])

-- the records of the first steps
pub did-take : (p n : ℕ) (s : List Taken) → take n (did p s) ≡ did p (take n s)
did-take p n s = take-map (record_by p) n s

-- equal records are of equal steps
pub did-same : (p : ℕ) (s u : List Taken) → did p s ≡ did p u → s ≡ u
did-same p [] [] e = refl
did-same p [] (t ∷ u) e = absurd (cc)
did-same p (t ∷ s) [] e = absurd (cc)
did-same p (t ∷ s) (v ∷ u) e =
    let first : Did p t.step t.found t.ended ≡ Did p v.step v.found v.ended = cc in
    ap (λ x. x ∷ s) (did_of-same p p t v first) ∙ ap (λ l. v ∷ l) (did-same p s u (cc))
