-- What the steps of one call make of a set, alone.
use Rattle.std.proofs.Common.{[], ◌++◌, ◌+◌, ◌/◌, ◌∙◌, ◌∷◌, ◌≡◌, ◌≤◌, ◌⊎◌, Bool, List, None, Option, Some, ap, arith, false, inl, inr, length, length-append, map, refl, slice_get, subst, suc, sym, take, true, unwrap_or, zero, ℕ}
use Rattle.bloom_steps.proofs.Common.{member-back, member-front, member_of_take, take-append-add, take-append-le, none-some, same_Some, slice_get_within, last_decision, Record, Each, Taken, after_records, record_decides, step_decides, FindsWhatIsThere, MayFind, did}
use Rattle.std.specs.Option.{option_or}
use Rattle.bloom_steps.proofs.RunLemmas.Changes.{DecidesOnly}
use Rattle.bloom_steps.proofs.StepLemmas.Deciding.{records-append}

-- records fit a set of w words: they find what is there, and past the words nothing is set
pub record Fits (w : ℕ) (A : ℕ → Bool) (rs : List Record) : Type 0 where
  pub finds : FindsWhatIsThere A rs
  pub within : (m q : ℕ) → m ≤ length rs → w ≤ q / 64 → after_records A (take m rs) q ≡ false

-- the first part of records that fit
pub fits-front : (w : ℕ) (A : ℕ → Bool) (xs ys : List Record) → Fits w A (xs ++ ys) → Fits w A xs
fits-front w A xs ys f =
    let longer = length-append xs ys in
    record {
      finds = λ m party step found e g.
          let inside = slice_get_within xs m _ g in
          subst (λ l. MayFind (after_records A l) step found) (take-append-le m xs ys (omega arith))
          (f.finds m party step found e (member-front xs ys _ m g));
      within = λ m q l past.
          ap (λ l. after_records A l q) (sym (take-append-le m xs ys l))
          ∙ f.within m q (omega arith) past;
    }

-- the second part of records that fit, over what the first makes of the set
pub fits-back : (w : ℕ) (A : ℕ → Bool) (xs ys : List Record) → Fits w A (xs ++ ys)
    → Fits w (after_records A xs) ys
fits-back w A xs ys f =
    let longer = length-append xs ys in
    record {
      finds = λ m party step found e g.
          subst (λ B. MayFind B step found) (λ j q. records-append A xs (take m ys) q j)
          (subst (λ l. MayFind (after_records A l) step found) (take-append-add xs ys m)
          (f.finds (length xs + m) party step found e (member-back xs ys m (length xs + m) refl
          ∙ g)));
      within = λ m q l past.
          sym (records-append A xs (take m ys) q)
          ∙ ap (λ l. after_records A l q) (sym (take-append-add xs ys m))
          ∙ f.within (length xs + m) q (omega arith) past;
    }

-- each step decides nothing of a position, or this
abbrev pub AllDecide : List Taken → ℕ → Option Bool → Type 0
AllDecide s q d = Each s (λ i t. DecidesOnly d q t.step)

-- what the last of some steps that decides a position makes it
abbrev decision : ℕ → List Taken → ℕ → Option Bool
decision p s q = last_decision (map record_decides (did p s)) q

-- a decision that is nothing or this stays so behind another such
or_only : (l x d : Option Bool) → (x ≡ None) ⊎ (x ≡ d) → (l ≡ None) ⊎ (l ≡ d)
    → (option_or l x ≡ None) ⊎ (option_or l x ≡ d)
or_only None x d a b = a
or_only (Some c) x d a b = b

-- two decisions, each nothing or this, are this where the first is
or_here : (l x d : Option Bool) → x ≡ d → (l ≡ None) ⊎ (l ≡ d) → option_or l x ≡ d
or_here None x d a b = a
or_here (Some c) x d a b = elim b [ inl n ↦ absurd (none-some _ (sym n)) | inr y ↦ y ]

-- two decisions, each nothing or this, are this where the later is
or_there : (l x d : Option Bool) → (x ≡ None) ⊎ (x ≡ d) → l ≡ d → option_or l x ≡ d
or_there None x d a b = elim a [ inl n ↦ n ∙ b | inr y ↦ y ]
or_there (Some c) x d a b = b

-- where each step decides nothing or this, so do all together
decision-all : (p : ℕ) (s : List Taken) (q : ℕ) (d : Option Bool) → AllDecide s q d
    → (decision p s q ≡ None) ⊎ (decision p s q ≡ d)
decision-all p [] q d all = inl refl
decision-all p (t ∷ s) q d all =
    or_only (decision p s q) (step_decides t.step q) d (all 0 t refl)
    (decision-all p s q d (λ i u g. all (suc i) u g))

-- where each step decides nothing or this, all together decide this if one of them does
decision-some : (p : ℕ) (s : List Taken) (q : ℕ) (d : Option Bool) → AllDecide s q d
    → (i : ℕ) (t : Taken) → slice_get s i ≡ Some t
    → step_decides t.step q ≡ d → decision p s q ≡ d
decision-some p [] q d all i t g e = absurd (none-some t g)
decision-some p (u ∷ s) q d all zero t g e =
    or_here (decision p s q) (step_decides u.step q) d
    (ap (λ (v : Taken). step_decides v.step q) (same_Some _ _ g) ∙ e)
    (decision-all p s q d (λ i u g. all (suc i) u g))
decision-some p (u ∷ s) q d all (suc i) t g e =
    or_there (decision p s q) (step_decides u.step q) d (all 0 u refl)
    (decision-some p s q d (λ i u g. all (suc i) u g) i t g e)

-- a position that no step decides keeps its bit
pub steps-none : (p : ℕ) (s : List Taken) (A : ℕ → Bool) (q : ℕ) → AllDecide s q None
    → after_records A (did p s) q ≡ A q
steps-none p s A q all =
    ap (λ o. unwrap_or o (A q)) (elim (decision-all p s q None all) [ inl n ↦ n | inr n ↦ n ])

-- a position that some step decides, and each that decides it alike, is what they decide
pub steps-some : (p : ℕ) (s : List Taken) (A : ℕ → Bool) (q : ℕ) (d : Option Bool) → AllDecide s q d
    → (i : ℕ) (t : Taken)
    → slice_get s i ≡ Some t → step_decides t.step q ≡ d
    → after_records A (did p s) q ≡ unwrap_or d (A q)
steps-some p s A q d all i t g e = ap (λ o. unwrap_or o (A q)) (decision-some p s q d all i t g e)

-- where nothing is cleared, what is set stays
pub steps-on : (p : ℕ) (s : List Taken) (A : ℕ → Bool) (q : ℕ) → AllDecide s q (Some true)
    → A q ≡ true
    → after_records A (did p s) q ≡ true
steps-on p s A q all on = elim (decision-all p s q (Some true) all) [
  | inl none ↦ ap (λ o. unwrap_or o (A q)) none ∙ on
  | inr some ↦ ap (λ o. unwrap_or o (A q)) some
]

-- what each step decides each of the first ones does
pub all_decide-take : (s : List Taken) (n q : ℕ) (d : Option Bool) → AllDecide s q d
    → AllDecide (take n s) q d
all_decide-take s n q d all i t g = all i t (member_of_take s n i t g).1
