-- At most one course is lawful and follows a schedule.
use Rattle.std.proofs.Common.{[], ◌++◌, ◌∙◌, ◌∷◌, ◌≡◌, Bool, List, ap, append_assoc, inl, inr, length, refl, subst, sym, ℕ}
use Rattle.bloom_steps.proofs.Common.{member-seam, take-append_seam, both_ways, EqualWordsLaw, content, Event, Begin, Go, Record, Did, Other, IsScript, Taken, after_records, AtMostOne, CallAfterCall, Course, FindsWhatIsThere, Follows, FollowsFrom, IsLawful, Gives, TakesStep, MayFind, next_event, no_event, records_of, runs}
use Rattle.bloom_steps.proofs.RunLemmas.NextSteps.{GoesAfter, goes_after, newest-same}
use Rattle.bloom_steps.proofs.RunLemmas.PartyRecords.{records_of-append, records_of-mine}
use Rattle.bloom_steps.proofs.RunLemmas.UniqueSteps.{end-same, found-same}
use Rattle.bloom_steps.proofs.StepLemmas.Going.{script_next}

-- the next record of a party's call is one
next-same : (w k p given : ℕ) (A : ℕ → Bool) (xs : List Record) (t u : Taken) → GoesAfter w k p xs t
    → GoesAfter w k p xs u
    → MayFind A t.step t.found → MayFind A u.step u.found
    → ((i : ℕ) → t.step ≡ Other i → t.found ≡ given)
    → ((i : ℕ) → u.step ≡ Other i → u.found ≡ given)
    → Did p t.step t.found t.ended ≡ Did p u.step u.found u.ended
next-same w k p given A xs t u a b f g x y =
    let one = newest-same p a.earlier b.earlier a.call b.call a.s b.s (sym a.same ∙ b.same) in
    let is : IsScript w k a.call (a.s ++ u ∷ b.rest) =
    subst (λ c. IsScript w k c (a.s ++ u ∷ b.rest)) (sym one.0)
    (subst (λ l. IsScript w k b.call (l ++ u ∷ b.rest)) (sym one.1) b.is) in
    let step : t.step ≡ u.step =
    script_next w k a.call a.s a.rest t a.is ∙ sym (script_next w k a.call a.s b.rest u is) in
    let found : t.found ≡ u.found =
    found-same A given u.step t.found u.found (subst (λ v. MayFind A v t.found) step f) g
    (λ i e. x i (step ∙ e)) y in
    let ended = end-same w k a.call a.s a.rest b.rest t u found a.is is in
    ap (λ v. Did p v t.found t.ended) step ∙ ap (λ v. Did p u.step v t.ended) found
    ∙ ap (λ v. Did p u.step u.found v) ended

-- records that are lawful over a set
record AreLawful (w k : ℕ) (A : ℕ → Bool) (rs : List Record) : Type 0 where
  pub finds : FindsWhatIsThere A rs
  pub calls : (p : ℕ) → CallAfterCall w k p (records_of p rs)

-- w words and k hashes, and a set
module _ (w k : ℕ) (A : ℕ → Bool) where
  -- a step goes on from its party's newest beginning
  after_at : (before later : List Record) (p : ℕ) (t : Taken)
      → AreLawful w k A (before ++ Did p t.step t.found t.ended ∷ later)
      → GoesAfter w k p (records_of p before) t
  after_at before later p t f =
      let r = Did p t.step t.found t.ended in
      goes_after w k p (records_of p (before ++ r ∷ later)) (records_of p before)
      (records_of p later) t (f.calls p)
      (records_of-append p before (r ∷ later)
      ∙ ap (λ l. records_of p before ++ l) (records_of-mine p r later refl))

  -- a step finds what the records before it left
  found_at : (before later : List Record) (p : ℕ) (t : Taken)
      → AreLawful w k A (before ++ Did p t.step t.found t.ended ∷ later)
      → MayFind (after_records A before) t.step t.found
  found_at before later p t f =
      let r = Did p t.step t.found t.ended in
      subst (λ l. MayFind (after_records A l) t.step t.found) (take-append_seam before (r ∷ later))
      (f.finds (length before) p t.step t.found t.ended (member-seam before later r))

  -- a step that is recorded is one
  step-same : (before : List Record) (p given : ℕ) (a b later other : List Record)
      → TakesStep before p given a → TakesStep before p given b
      → AreLawful w k A (before ++ (a ++ later)) → AreLawful w k A (before ++ (b ++ other)) → a ≡ b
  step-same before p given a b later other x y f g =
      let t : Taken = record { step = x.step; found = x.found; ended = x.ended } in
      let u : Taken = record { step = y.step; found = y.found; ended = y.ended } in
      let ft = subst (λ l. AreLawful w k A (before ++ (l ++ later))) x.same f in
      let fu = subst (λ l. AreLawful w k A (before ++ (l ++ other))) y.same g in
      x.same
      ∙ ap (λ r. r ∷ [])
      (next-same w k p given (after_records A before) (records_of p before) t u
      (after_at before later p t ft) (after_at before other p u fu) (found_at before later p t ft)
      (found_at before other p u fu) x.reads y.reads)
      ∙ sym y.same

  -- what an event adds is one
  gives-same : (parties : ℕ) (before : List Record) (e : Event) (a b later other : List Record)
      → Gives parties before e a
      → Gives parties before e b → AreLawful w k A (before ++ (a ++ later))
      → AreLawful w k A (before ++ (b ++ other)) → a ≡ b
  gives-same parties before (Begin p call) a b later other g h f f2 = elim g [
    | inl x ↦ elim h [
      | inl y ↦ x.same ∙ sym y.same
      | inr y ↦ absurd (both_ways (runs p before) x.idle (y.busy x.within))
    ]
    | inr x ↦ elim h [
      | inl y ↦ absurd (both_ways (runs p before) y.idle (x.busy y.within))
      | inr y ↦ x.same ∙ sym y.same
    ]
  ]
  gives-same parties before (Go p given) a b later other g h f f2 = elim g [
    | inl x ↦ elim h [
      | inl y ↦ step-same before p given a b later other x y f f2
      | inr y ↦ absurd (both_ways (runs p before) y.idle x.running)
    ]
    | inr x ↦ elim h [
      | inl y ↦ absurd (both_ways (runs p before) x.idle y.running)
      | inr y ↦ x.same ∙ sym y.same
    ]
  ]

  -- what the events of a schedule add is one
  follows-same : (parties : ℕ) (before : List Record) (es : List Event) (a b : List Record)
      → FollowsFrom parties before es a
      → FollowsFrom parties before es b → AreLawful w k A (before ++ a)
      → AreLawful w k A (before ++ b) → a ≡ b
  follows-same n before [] _ _ (no_event _) (no_event _) l m = refl
  follows-same n before (e ∷ es) _ _ (next_event _ _ _ a xs g f) (next_event _ _ _ b ys h i) l m =
      let same = gives-same n before e a b xs ys g h l m in
      let first = subst (AreLawful w k A) (sym (append_assoc before a xs)) l in
      let joined = ap (λ c. before ++ (c ++ ys)) (sym same) ∙ sym (append_assoc before a ys) in
      let second = subst (AreLawful w k A) joined m in
      let follows = subst (λ c. FollowsFrom n (before ++ c) es ys) (sym same) i in
      ap (λ c. c ++ xs) same
      ∙ ap (λ c. b ++ c) (follows-same n (before ++ a) es xs ys f follows first second)

-- two lawful courses that follow one schedule
module _ (parties k : ℕ) (words : List ℕ) (schedule : List Event) (one other : Course)
    (lawful : IsLawful k one) (lawful2 : IsLawful k other)
    (follows : Follows parties words schedule one)
    (follows2 : Follows parties words schedule other) where
  -- both begin with the same words
  begins-same : one.start ≡ other.start
  begins-same = follows.begins ∙ sym follows2.begins

  -- both have the same records
  records-same : one.records ≡ other.records
  records-same =
      let finds =
      subst (λ l. FindsWhatIsThere (content l) other.records) (sym begins-same) lawful2.finds in
      let calls =
      subst (λ l. (p : ℕ) → CallAfterCall (length l) k p (records_of p other.records))
      (sym begins-same) lawful2.calls in
      follows-same (length one.start) k (content one.start) parties [] schedule one.records
      other.records follows.events follows2.events
      (record { finds = lawful.finds; calls = lawful.calls })
      (record { finds = finds; calls = calls })

  -- both leave the same bits
  bits-same : (p : ℕ) → content one.words p ≡ content other.words p
  bits-same p =
      lawful.bits p ∙ ap (λ l. after_records (content l) one.records p) begins-same
      ∙ ap (λ rs. after_records (content other.start) rs p) records-same ∙ sym (lawful2.bits p)

  -- both leave the same words, since words are fixed by their content
  words-same : EqualWordsLaw → one.words ≡ other.words
  words-same equal_words =
      let count = lawful.count ∙ ap length begins-same ∙ sym lawful2.count in
      (equal_words one.words other.words lawful.fit lawful2.fit count).1 bits-same

  -- so both are the same
  both-same : EqualWordsLaw → one ≡ other
  both-same equal_words =
      ap (λ l. record { start = l; records = one.records; words = one.words }) begins-same
      ∙ ap (λ l. record { start = other.start; records = l; words = one.words }) records-same
      ∙ ap (λ l. record { start = other.start; records = other.records; words = l })
      (words-same equal_words)

-- at most one course is lawful and follows a schedule
pub at_most_one : EqualWordsLaw → AtMostOne
at_most_one equal_words parties k words schedule one other lawful follows lawful2 follows2 =
    both-same parties k words schedule one other lawful lawful2 follows follows2 equal_words
