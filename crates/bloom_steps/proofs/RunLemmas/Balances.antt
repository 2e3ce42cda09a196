-- Each record of an insert, a look-up or a take changes the number of set positions by what it sets
-- or takes.
use Rattle.std.proofs.Common.{◌&&◌, ◌+◌, ◌/◌, ◌<◌, ◌∙◌, ◌≡◌, ◌⊎◌, Bool, None, Some, ap, arith, eq-eqb, false, if◌then◌else◌, inl, inr, nat_eq, not, refl, slice_get, subst, sym, true, unwrap_or, ℕ, length}
use Rattle.bloom_steps.proofs.Common.{ne_eqb, bit_is_on, End, Record, Began, Did, Step, Load, Or, Course, bits_gained, bits_new, bits_on, bits_taken, count_below, bits_of, moment, step_decides}
use Rattle.bloom_steps.specs.declared.steps.vocabulary.Step.TheVariants as step
use Rattle.bloom_steps.proofs.RunLemmas.Changes.{moment-more}
use Rattle.bloom_steps.proofs.RunLemmas.Counting.{count_below-gained, count_below-same, count_below-word}
use Rattle.bloom_steps.proofs.RunLemmas.Scripted.{EachStep, FindsBits, StepsWithin}

-- how many positions are set at moment m
abbrev pub on_at : Course → ℕ → ℕ
on_at run m = count_below (bits_of run) (moment run m)

-- what record m sets and what it takes are the difference of the two moments
abbrev pub Balances : Course → ℕ → Record → Type 0
Balances run m r = on_at run m + bits_gained r ≡ bits_taken r + on_at run (m + 1)

-- a step sets bits of a mask, or loads a word
abbrev pub AddsOrLoads : Step → Type 0
AddsOrLoads did =
    ((i : ℕ) × (mask : ℕ) × (did ≡ Or i mask)) ⊎ ((i : ℕ) × (did ≡ Load i))

-- or it takes a word
abbrev pub AddsOrTakes : Step → Type 0
AddsOrTakes did = AddsOrLoads did ⊎ ((i : ℕ) × (did ≡ step.Take i))

-- where each step sets bits or loads a word, no record takes anything
pub takes-nothing : (run : Course) → EachStep AddsOrLoads run → (m : ℕ) (r : Record)
    → slice_get run.records m ≡ Some r → bits_taken r ≡ 0
takes-nothing run each m (Began party call) g = refl
takes-nothing run each m (Did party did found ended) g = elim (each m party did found ended g) [
  | inl (i, mask, is) ↦ ap (λ x. bits_taken (Did party x found ended)) is
  | inr (i, is) ↦ ap (λ x. bits_taken (Did party x found ended)) is
]

-- a course in which each step finds what is there
module _ (run : Course) (finds : FindsBits run) where
  -- a record that sets nothing, takes nothing and leaves the set
  stays : (m : ℕ) (r : Record) → bits_gained r ≡ 0 → bits_taken r ≡ 0
      → ((q : ℕ) → moment run (m + 1) q ≡ moment run m q) → Balances run m r
  stays m r none nothing same =
      let e : on_at run (m + 1) ≡ on_at run m =
      count_below-same (bits_of run) _ _ (λ q l. same q) in
      omega (arith, e, nothing, none)

  -- a step of record m
  module _ (m party i found : ℕ) (ended : End) (within : i < length run.start) where
    -- what a step does to each position
    after : (did : Step) → slice_get run.records m ≡ Some (Did party did found ended) → (q : ℕ)
        → moment run (m + 1) q ≡ unwrap_or (step_decides did q) (moment run m q)
    after did g q = moment-more run m (Did party did found ended) q g

    -- a step that sets bits of a mask
    sets : (mask : ℕ) → slice_get run.records m ≡ Some (Did party (Or i mask) found ended)
        → Balances run m (Did party (Or i mask) found ended)
    sets mask g =
        let more : on_at run (m + 1) ≡ on_at run m + bits_new mask found =
        count_below-gained (length run.start) i mask found (moment run m) (moment run (m + 1))
        within
        (λ p on. after (Or i mask) g p ∙ ap (unwrap_or (step_decides (Or i mask) p)) on
        ∙ kept (nat_eq (p / 64) i && bit_is_on mask p))
        (λ p here.
        ap (λ b. b && not (moment run m p)) (after (Or i mask) g p)
        ∙ ap (λ b. unwrap_or (if b && bit_is_on mask p then Some true else None) (moment run m p)
        && not (moment run m p)) (eq-eqb (p / 64) i here)
        ∙ gains (bit_is_on mask p) (moment run m p)
        ∙ ap (λ b. bit_is_on mask p && not b)
        (sym (finds m party (Or i mask) found ended g p here)))
        (λ p apart.
        ap (λ b. b && not (moment run m p)) (after (Or i mask) g p)
        ∙ ap (λ b. unwrap_or (if b && bit_is_on mask p then Some true else None) (moment run m p)
        && not (moment run m p)) (ne_eqb (p / 64) i apart)
        ∙ never (moment run m p)) in
        omega (arith, more)
      where
        kept : (b : Bool) → unwrap_or (if b then Some true else None) true ≡ true
        kept true = refl
        kept false = refl

        never : (b : Bool) → (b && not b) ≡ false
        never true = refl
        never false = refl

        gains : (b was : Bool)
            → (unwrap_or (if b then Some true else None) was && not was) ≡ (b && not was)
        gains true was = refl
        gains false was = never was

    -- the step of a take
    takes : slice_get run.records m ≡ Some (Did party (step.Take i) found ended)
        → Balances run m (Did party (step.Take i) found ended)
    takes g =
        let less : on_at run m ≡ bits_on found + on_at run (m + 1) =
        count_below-word (length run.start) i found (moment run m) (moment run (m + 1)) within
        (λ q here. (
          finds m party (step.Take i) found ended g q here,
          after (step.Take i) g q ∙ decided q (eq-eqb (q / 64) i here),
        ))
        (λ q apart. sym (after (step.Take i) g q ∙ decided q (ne_eqb (q / 64) i apart))) in
        omega (arith, less)
      where
        decided : (q : ℕ) {b : Bool} → nat_eq (q / 64) i ≡ b
            → unwrap_or (step_decides (step.Take i) q) (moment run m q)
            ≡ unwrap_or (if b then Some false else None) (moment run m q)
        decided q = ap (λ b. unwrap_or (if b then Some false else None) (moment run m q))

  -- where each step sets bits, loads a word or takes one, each record balances
  pub balances : StepsWithin run → EachStep AddsOrTakes run → (m : ℕ) (r : Record)
      → slice_get run.records m ≡ Some r → Balances run m r
  balances within each m (Began party call) g =
      stays m (Began party call) refl refl (λ q. moment-more run m (Began party call) q g)
  balances within each m (Did party did found ended) g = elim (each m party did found ended g) [
    | inl either ↦ elim either [
      | inl (i, mask, is) ↦
          subst (λ x. Balances run m (Did party x found ended)) (sym is)
          (let at = here is in
          sets m party i found ended (within m party (Or i mask) found ended at) mask at)
      | inr (i, is) ↦
          subst (λ x. Balances run m (Did party x found ended)) (sym is)
          (stays m (Did party (Load i) found ended) refl refl
          (λ q. moment-more run m (Did party (Load i) found ended) q (here is)))
    ]
    | inr (i, is) ↦
        subst (λ x. Balances run m (Did party x found ended)) (sym is)
        (let at = here is in
        takes m party i found ended (within m party (step.Take i) found ended at) at)
  ]
    where
      here : {x : Step} → did ≡ x → slice_get run.records m ≡ Some (Did party x found ended)
      here is = subst (λ x. slice_get run.records m ≡ Some (Did party x found ended)) is g
