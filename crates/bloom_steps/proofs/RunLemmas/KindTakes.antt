-- Takes in courses of calls of any kind: each finds what is there, and nothing is lost.
use Rattle.std.proofs.Common.{if◌then◌else◌, ◌+◌, ◌-◌, ◌/◌, ◌<◌, ◌∙◌, ◌≡◌, ◌⊎◌, Bool, None, Some, ap, arith, eq-eqb, false, inl, inr, length, refl, slice_get, subst, suc, sym, true, unwrap_or, zero, ℕ}
use Rattle.bloom_steps.proofs.Common.{some_member, eqb_tells, content, Record, Began, Did, EachStepOf, IsTakenSince, LosesNoPosition, TakesWhatIsThere, Course, adds_or_takes, moment, step_decides}
use Rattle.bloom_steps.specs.declared.steps.vocabulary.Step.TheVariants as step
use Rattle.bloom_steps.proofs.RunLemmas.Bounds.{content-end, not_off}
use Rattle.bloom_steps.proofs.RunLemmas.Changes.{DecidesOnly, TurnsOff, moment-more, or-decides_only}
use Rattle.bloom_steps.proofs.RunLemmas.KindSteps.{adds-or-takes}
use Rattle.bloom_steps.proofs.RunLemmas.Kinds.{Kind}
use Rattle.bloom_steps.proofs.RunLemmas.Scripted.{IsScripted}

-- a course of calls of a kind
module _ (kind : Kind) (run : Course) (course : IsScripted kind.Script run) where
  -- a take finds what is there, and clears it
  pub takes-what-is-there : TakesWhatIsThere run
  takes-what-is-there m party word found ended g p here = (
    course.finds m party (step.Take word) found ended g p here,
    moment-more run m (Did party (step.Take word) found ended) p g
        ∙ ap (λ b. unwrap_or (if b then Some false else None) (moment run m p))
        (eq-eqb (p / 64) word here),
  )

  -- a position that a record cleared was taken by it
  taken-by : EachStepOf adds_or_takes run → (m p : ℕ) (r : Record)
      → slice_get run.records m ≡ Some r → TurnsOff run m p → IsTakenSince run m p
  taken-by each m p (Began party call) g off =
      absurd (not_off run m p (Began party call) g (inl refl) off)
  taken-by each m p (Did party did found ended) g off =
      let r = Did party did found ended in
      elim (adds-or-takes kind run course each m party did found ended g) [
        | inl adds ↦ elim adds [
          | inl (w, mask, is) ↦
              let only = subst (DecidesOnly (Some true) p) (sym is) (or-decides_only w mask p) in
              absurd (not_off run m p r g only off)
          | inr (i, is) ↦
              absurd (not_off run m p r g (inl (ap (λ x. step_decides x p) is)) off)
        ]
        | inr took ↦ takes took
      ]
    where
      takes : (i : ℕ) × (did ≡ step.Take i) → IsTakenSince run m p
      takes (i, is) = elim (eqb_tells (p / 64) i) [
        | inl same ↦
            let here = g ∙ ap (λ x. Some (Did party x found ended))
            (is ∙ ap step.Take (sym same.1)) in
            record {
              at = m;
              since = omega arith;
              party = party;
              found = found;
              ended = ended;
              takes = here;
              on = (takes-what-is-there m party (p / 64) found ended here p refl).0 ∙ off.0;
            }
        | inr other ↦
            absurd (not_off run m p (Did party did found ended) g
            (inl (ap (λ x. step_decides x p) is
            ∙ ap (λ b. if b then Some false else None) other.0)) off)
      ]

  -- from a moment, where it is so from the next one
  kept-next : EachStepOf adds_or_takes run → (m p : ℕ) → m < length run.records
      → moment run m p ≡ true
      → (moment run (m + 1) p ≡ true → (content run.words p ≡ true) ⊎ IsTakenSince run (m + 1) p)
      → (content run.words p ≡ true) ⊎ IsTakenSince run m p
  kept-next each m p within on next = go (moment run (m + 1) p) refl
    where
      go : (b : Bool) → moment run (m + 1) p ≡ b
          → (content run.words p ≡ true) ⊎ IsTakenSince run m p
      go true is = elim (next is) [
        | inl end ↦ inl end
        | inr by ↦
            let since = by.since in
            inr (record {
              at = by.at;
              since = omega (arith, since);
              party = by.party;
              found = by.found;
              ended = by.ended;
              takes = by.takes;
              on = by.on;
            })
      ]
      go false is =
          let (r, g) = some_member run.records m within in inr (taken-by each m p r g (on, is))

  -- from a moment that lies this many records before the end
  kept-from : EachStepOf adds_or_takes run → (p n m : ℕ) → m + n ≡ length run.records
      → moment run m p ≡ true → (content run.words p ≡ true) ⊎ IsTakenSince run m p
  kept-from each p zero m e on =
      let last : length run.records ≡ m = omega (arith, e) in
      inl (content-end run course.bits p ∙ ap (λ j. moment run j p) last ∙ on)
  kept-from each p (suc n) m e on =
      kept-next each m p (omega (arith, e)) on
      (λ is. kept-from each p n (m + 1) (omega (arith, e)) is)

  -- no position is lost
  pub loses-no-position : LosesNoPosition run
  loses-no-position each m p within on =
      kept-from each p (length run.records - m) m (omega (arith, within)) on
