-- What was set at the start or since is what was taken or is left.
use Rattle.std.proofs.Common.{[], ◌+◌, ◌∙◌, ◌∷◌, ◌≡◌, ◌≤◌, List, Some, add-one, ap, arith, inl, length, refl, slice_get, subst, suc, take, true, zero, ℕ}
use Rattle.bloom_steps.proofs.Common.{some_member, take-length, get_or_from_slice_get, sum_by, content, Record, BitsTell, Course, GainsOnce, IsBalanced, LosesNothing, bits_gained, bits_taken, count_below, bits_of}
use Rattle.std.proofs.lemmas.List.Sums.{sum_by-cons, sum_by_more}
use Rattle.bloom_steps.proofs.RunLemmas.Balances.{AddsOrLoads, AddsOrTakes, balances, on_at, takes-nothing}
use Rattle.bloom_steps.proofs.RunLemmas.Bounds.{content-end}
use Rattle.bloom_steps.proofs.RunLemmas.Counting.{count_below-part, count_below-same}
use Rattle.bloom_steps.proofs.RunLemmas.Scripted.{EachStep, FindsBits, StepsWithin}

-- where no record takes anything, nothing was taken
none-taken : (rs : List Record)
    → ((m : ℕ) (r : Record) → slice_get rs m ≡ Some r → bits_taken r ≡ 0)
    → sum_by bits_taken rs ≡ 0
none-taken [] none = refl
none-taken (r ∷ rs) none =
    let later = none-taken rs (λ m s g. none (suc m) s g) in
    omega (arith, sum_by-cons bits_taken r rs, none 0 r refl, later)

-- a course in which each step finds what is there
module _ (run : Course) (bits : BitsTell run) (finds : FindsBits run) (within : StepsWithin run)
  where
    -- at each moment, the positions of the start and those set since are those taken and those that
    -- are set
    balance : EachStep AddsOrTakes run → (m : ℕ) → m ≤ length run.records → IsBalanced run m
    balance each zero l = omega arith
    balance each (suc m) l =
        let there = some_member run.records m (omega arith) in
        let r = there.0 in
        let here = get_or_from_slice_get run.records m r r there.1 in
        let before = balance each m (omega arith) in
        let now = balances run finds within each m r there.1 in
        let gains =
        sum_by_more bits_gained run.records m r (omega arith)
        ∙ ap (λ x. sum_by bits_gained (take m run.records) + bits_gained x) here in
        let takes =
        sum_by_more bits_taken run.records m r (omega arith)
        ∙ ap (λ x. sum_by bits_taken (take m run.records) + bits_taken x) here in
        subst (IsBalanced run) (add-one m) (omega (arith, before, now, gains, takes))

    -- where each step sets bits, loads a word or takes one, nothing is lost
    pub loses_nothing : EachStep AddsOrTakes run → LosesNothing run
    loses_nothing each =
        let all = take-length run.records in
        let last = balance each (length run.records) (omega arith) in
        let gains = ap (sum_by bits_gained) all in
        let takes = ap (sum_by bits_taken) all in
        let end : count_below (bits_of run) (content run.words) ≡ on_at run (length run.records) =
        count_below-same (bits_of run) _ _ (λ q l. content-end run bits q) in
        record { always = balance each; whole = omega (arith, last, gains, takes, end) }

    -- where each step sets bits or loads a word, and what is set stays, what is there beyond the
    -- start was set by a step
    pub gains_once : EachStep AddsOrLoads run
        → ((p : ℕ) → content run.start p ≡ true → content run.words p ≡ true) → GainsOnce run
    gains_once each stays =
        let kept =
        loses_nothing (λ m party did found ended g. inl (each m party did found ended g)) in
        let nothing = none-taken run.records (takes-nothing run each) in
        let parts =
        count_below-part (bits_of run) (content run.start) (content run.words) stays in
        omega (arith, kept.whole, nothing, parts)
