-- The script that a finished call's own records make, in a lawful course.
use Rattle.std.proofs.Common.{◌++◌, ◌+◌, ◌-◌, ◌∙◌, ◌∷◌, ◌≡◌, ◌≤◌, Bool, List, Some, add-one, ap, arith, drop, inl, inr, length, refl, slice_get, suc, sym, take, ℕ}
use Rattle.bloom_steps.proofs.Common.{split-at, append-nil, drop-take, Call, End, Record, Began, Did, Step, Other, Zero, MadeBetween, IsFinished, moment, IsBeginning, IsScript, Taken, Course, IsLawful, MayFind, did, records_of}
use Rattle.bloom_steps.proofs.RunLemmas.LawfulWithin.{lawful-within}
use Rattle.bloom_steps.proofs.RunLemmas.RunningCalls.{one_end-script}
use Rattle.bloom_steps.proofs.RunLemmas.PartyRecords.{did-got, own_of_record, records_of-append, records_of-mine}
use Rattle.bloom_steps.proofs.RunLemmas.CallRecords.{EndsAt, Segment, front_is, segment}
use Rattle.bloom_steps.proofs.RunLemmas.Scripted.{FindsBits, FoundBits, IsScripted, member-drop}
use Rattle.bloom_steps.proofs.StepLemmas.Whole.{beginning_runs, script_some}

-- a finished call of a lawful run of some words and hashes
module _ (k : ℕ) (run : Course) (lawful : IsLawful k run) (some_words : 1 ≤ length run.start)
    (some_hashes : 1 ≤ k) (p : ℕ) (call : Call) (began last : ℕ) (ended : End)
    (fin : IsFinished run p call began last ended) where
  -- the records after the call's beginning
  abbrev mid : List Record
  mid = drop (suc began) run.records

  -- the number of records between the call's beginning and its last record
  abbrev n : ℕ
  n = last - suc began

  -- the call's last step
  abbrev final : Taken
  final = record { step = fin.ends.step; found = fin.ends.found; ended = ended }

  -- the records of the call's party
  own : records_of p run.records ≡ records_of p
      (take began run.records) ++ Began p call ∷ records_of p mid
  own =
      ap (records_of p) (split-at run.records began (Began p call) fin.begins)
      ∙ records_of-append p (take began run.records) (Began p call ∷ mid)
      ∙ ap (λ l. records_of p (take began run.records) ++ l)
      (records_of-mine p (Began p call) mid refl)

  -- what the later records of the call's party begin with
  seg : Segment (length run.start) k p call (records_of p mid)
  seg =
      segment (length run.start) k p (records_of p run.records)
      (records_of p (take began run.records)) (records_of p mid) call (lawful.calls p) own

  -- a record after the call's beginning
  at : (m q : ℕ) → q ≡ suc began + m → slice_get mid m ≡ slice_get run.records q
  at = member-drop run.records (suc began)

  -- the call's last record
  there : slice_get mid n ≡ Some (Did p final.step final.found final.ended)
  there = let order = fin.order in at n last (omega arith) ∙ fin.ends.here

  -- the call's last record ends it
  ends : EndsAt mid p n final
  ends = record {
    here = there;
    over = fin.over;
    no_other =
        λ m c l g.
        fin.no_other (suc began + m) c (omega arith) (omega arith)
        (sym (at m (suc began + m) refl) ∙ g);
    still = λ m step found e l g.
        fin.still (suc began + m) e (omega arith) (omega arith)
        (record { step = step; found = found; here = sym (at m (suc began + m) refl) ∙ g });
  }

  -- a beginning of a script does not end
  unfinished : (s : List Taken) → IsBeginning (length run.start) k call s
      → records_of p mid ≡ did p s → ⊥
  unfinished s begins same =
      let its = own_of_record p mid n (Did p final.step final.found final.ended) there refl in
      let member =
      did-got p s its.0 p final (sym (ap (λ l. slice_get l its.0) same) ∙ its.1) in
      fin.over (beginning_runs (length run.start) k call s its.0 final begins member)

  -- the records between are those after the call's beginning
  between : (s : List Taken) → records_of p (take (suc n) mid) ≡ did p s
      → MadeBetween run p began last s
  between s front =
      let order = fin.order in
      let size : last + 1 ≡ (began + 1) + suc n = omega arith in
      ap (λ j. records_of p (drop (began + 1) (take j run.records))) size
      ∙ ap (records_of p) (drop-take (began + 1) (suc n) run.records)
      ∙ ap (λ j. records_of p (take (suc n) (drop j run.records))) (add-one began) ∙ front

  -- the call has its script
  pub own_script : (s : List Taken) × IsScript (length run.start) k call s
      × MadeBetween run p began last s
  own_script = elim seg.kind [
    | inl is ↦
        let some = script_some (length run.start) k call seg.s some_words some_hashes is in
        let one = one_end-script (length run.start) k call seg.s some is in
        (seg.s, is, between seg.s (front_is p mid n final seg.s seg.later seg.same one ends))
    | inr b ↦
        let same : records_of p mid ≡ did p seg.s =
        seg.same ∙ ap (λ l. did p seg.s ++ l) b.1 ∙ append-nil (did p seg.s) in
        absurd (unfinished seg.s b.0 same)
  ]

-- the word that a step found has the bits that were there
found-bits : (A : ℕ → Bool) (step : Step) (found : ℕ) → MayFind A step found
    → FoundBits A step found
found-bits A (Zero i) found may = tt
found-bits A (Other i) found may = tt
found-bits A step found may = may.bits

-- each step of a lawful run found the bits that were there
pub lawful-finds : (k : ℕ) (run : Course) → IsLawful k run → FindsBits run
lawful-finds k run lawful m party step found ended at =
    found-bits (moment run m) step found (lawful.finds m party step found ended at)

-- a lawful run of some words and hashes is a course whose calls made scripts
pub scripted : (k : ℕ) (run : Course) → IsLawful k run → 1 ≤ length run.start → 1 ≤ k
    → IsScripted (IsScript (length run.start) k) run
scripted k run lawful some_words some_hashes = record {
  finds = lawful-finds k run lawful;
  within = lawful-within k run lawful;
  bits = lawful.bits;
  calls = own_script k run lawful some_words some_hashes;
}
