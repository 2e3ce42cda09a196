-- Courses whose finished calls made scripts, of whatever kind: what each step found, and the steps
-- of each finished call.
use Rattle.std.proofs.Common.{◌+◌, ◌-◌, ◌/◌, ◌<◌, ◌∙◌, ◌≡◌, ◌≤◌, List, Some, ap, arith, drop, inl, inr, length, refl, slice_get, suc, sym, take, zero, ℕ, [], ◌∷◌, Bool}
use Rattle.bloom_steps.proofs.Common.{member-take, member_of_take, eqb_tells, slice_get_within, bit_is_on, Call, End, Running, Did, Step, And, Load, Or, Other, Zero, MadeBetween, Course, BitsTell, IsFinished, moment, AllButLast, Taken}
use Rattle.bloom_steps.specs.declared.steps.vocabulary.Step.TheVariants.{Take}
use Rattle.bloom_steps.proofs.RunLemmas.PartyRecords.{did-get, did-got, own_of_record, record_of_own}

-- a word that was found has the bits of a set, where its step reads a word of the filter
abbrev pub FoundBits : (ℕ → Bool) → Step → ℕ → Type 0
FoundBits A (Load i) found = (p : ℕ) → p / 64 ≡ i → bit_is_on found p ≡ A p
FoundBits A (Or i mask) found = (p : ℕ) → p / 64 ≡ i → bit_is_on found p ≡ A p
FoundBits A (And i mask) found = (p : ℕ) → p / 64 ≡ i → bit_is_on found p ≡ A p
FoundBits A (Zero i) found = Unit {0}
FoundBits A (Other i) found = Unit {0}
FoundBits A (Take i) found = (p : ℕ) → p / 64 ≡ i → bit_is_on found p ≡ A p

-- each step finds the bits that the last deciders before it left
abbrev pub FindsBits : Course → Type 0
FindsBits run = (m party : ℕ) (step : Step) (found : ℕ) (ended : End)
    → slice_get run.records m ≡ Some (Did party step found ended)
    → FoundBits (moment run m) step found

-- a step that sets bits, or takes a word, does so in one of some words
abbrev pub IsWithin : ℕ → Step → Type 0
IsWithin w (Load i) = Unit {0}
IsWithin w (Or i mask) = i < w
IsWithin w (And i mask) = Unit {0}
IsWithin w (Zero i) = Unit {0}
IsWithin w (Other i) = Unit {0}
IsWithin w (Take i) = i < w

-- each step of a course has a property
abbrev pub EachStep : (Step → Type 0) → Course → Type 0
EachStep P run = (m party : ℕ) (step : Step) (found : ℕ) (ended : End)
    → slice_get run.records m ≡ Some (Did party step found ended) → P step

-- each step that sets bits, or takes a word, does so in one of the words
abbrev pub StepsWithin : Course → Type 0
StepsWithin run = EachStep (IsWithin (length run.start)) run

-- a course whose finished calls each made the steps of one of the call's scripts
pub record IsScripted (Script : Call → List Taken → Type 0) (run : Course) : Type 0 where
  pub finds : FindsBits run
  pub within : StepsWithin run
  pub bits : BitsTell run
  pub calls : (party : ℕ) (call : Call) (began last : ℕ) (ended : End)
      → IsFinished run party call began last ended
      → (s : List Taken) × Script call s × MadeBetween run party began last s

-- a member of the records after the first ones
pub member-drop : {X : Type 0} (xs : List X) (n j q : ℕ) → q ≡ n + j
    → slice_get (drop n xs) j ≡ slice_get xs q
member-drop xs zero j q e = let same : j ≡ q = omega arith in ap (slice_get xs) same
member-drop [] (suc n) j q e = refl
member-drop (x ∷ xs) (suc n) j zero e = absurd (omega arith)
member-drop (x ∷ xs) (suc n) j (suc q) e = member-drop xs n j q (omega arith)

-- a record of a step, after one record and up to another
pub record HasRecord (run : Course) (p began last : ℕ) (t : Taken) : Type 0 where
  pub m : ℕ
  pub later : began < m
  pub upto : m ≤ last
  pub is : slice_get run.records m ≡ Some (Did p t.step t.found t.ended)

-- the steps of a finished call and the records of its party are the same, and the last ends it
pub record OwnSteps
    (run : Course) (party began last : ℕ) (ended : End) (s : List Taken) : Type 0 where
  pub to_record : (i : ℕ) (t : Taken) → slice_get s i ≡ Some t → HasRecord run party began last t
  pub from_record : (m : ℕ) (t : Taken) → began < m → m ≤ last
      → slice_get run.records m ≡ Some (Did party t.step t.found t.ended)
      → (i : ℕ) × (slice_get s i ≡ Some t)
  pub final : Taken
  pub at_last : slice_get run.records last ≡ Some (Did party final.step final.found final.ended)
  pub index : ℕ
  pub is_final : slice_get s index ≡ Some final
  pub closes : index + 1 ≡ length s
  pub final_ended : final.ended ≡ ended

-- steps of a party, between two records
module _ (run : Course) (party began last : ℕ) (s : List Taken)
    (own : MadeBetween run party began last s) where
  -- a step has a record
  pub record-of : (i : ℕ) (t : Taken) → slice_get s i ≡ Some t → HasRecord run party began last t
  record-of i t g =
      let r = Did party t.step t.found t.ended in
      let (m, at) =
      record_of_own party (drop (began + 1) (take (last + 1) run.records)) i r
      (ap (λ l. slice_get l i) own ∙ did-get party s i t g) in
      let (below, here) =
      member_of_take run.records (last + 1) (began + 1 + m) r
      (sym (member-drop (take (last + 1) run.records) (began + 1) m (began + 1 + m) refl) ∙ at) in
      record { m = began + 1 + m; later = omega arith; upto = omega (arith, below); is = here }

  -- a record is of a step
  pub step-of : (m : ℕ) (t : Taken) → began < m → m ≤ last
      → slice_get run.records m ≡ Some (Did party t.step t.found t.ended)
      → (i : ℕ) × (slice_get s i ≡ Some t)
  step-of m t later upto g =
      let r = Did party t.step t.found t.ended in
      let (i, at) =
      own_of_record party (drop (began + 1) (take (last + 1) run.records)) (m - (began + 1)) r
      (member-drop (take (last + 1) run.records) (began + 1) (m - (began + 1)) m
      (omega (arith, later))
      ∙ member-take run.records (last + 1) m r (omega (arith, upto)) g) refl in
      (i, did-got party s i party t (sym (ap (λ l. slice_get l i) own) ∙ at))

  -- the steps of a finished call
  pub own_steps : (call : Call) (ended : End) → IsFinished run party call began last ended
      → AllButLast s (λ i t. t.ended ≡ Running) → OwnSteps run party began last ended s
  own_steps call ended fin running =
      let final : Taken =
      record { step = fin.ends.step; found = fin.ends.found; ended = ended } in
      let order = fin.order in
      let (index, is_final) = step-of last final order (omega arith) fin.ends.here in
      let within = slice_get_within s index final is_final in
      record {
        to_record = record-of;
        from_record = step-of;
        final = final;
        at_last = fin.ends.here;
        index = index;
        is_final = is_final;
        closes = elim (eqb_tells (index + 1) (length s)) [
          | inl y ↦ y.1
          | inr n ↦
              let apart = n.1 in absurd (fin.over (running index final is_final (omega arith)))
        ];
        final_ended = refl;
      }
