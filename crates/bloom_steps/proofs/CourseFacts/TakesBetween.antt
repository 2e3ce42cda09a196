-- A take between the steps of an insert: it loses nothing that was set, and a clear does.
use Rattle.bloom_steps.proofs.Common.{sum_by, chain, content, Or, Insert, Running, Done, Answer, Began, Did, CallAfterCall, Course, IsLawful, no_call, records_of, whole_call, TakesLoseNothing, adds_or_takes, bits_gained, bits_new, bits_on, bits_taken, count_below, bits_of, IsScript, Taken}
use Rattle.std.proofs.Common.{◌≡◌, ◌∷◌, [], List, ℕ, zero, suc, false, refl, arith, sym, subst, lit<}
use Rattle.bloom_steps.specs.declared.steps.vocabulary.Step.TheVariants as step
use Rattle.bloom_steps.specs.declared.steps.vocabulary.Call.TheVariants.{Take}
use Rattle.bloom_steps.proofs.CourseFacts.Finished.{every-call}
use Rattle.bloom_steps.proofs.CourseFacts.Lawful.{carried, one-word}
use Rattle.bloom_steps.proofs.CourseFacts.Parties.{none-past}
use Rattle.bloom_steps.proofs.RunLemmas.Gained.{takes_lose_nothing}
use Rattle.bloom_steps.proofs.StepFacts.Members.{each-member, one-step, took}

-- the four numbers of a course: set at the start, set by steps, taken, left
record HasCounts (run : Course) (start gained taken left : ℕ) : Type 0 where
  pub at_start : count_below (bits_of run) (content run.start) ≡ start
  pub turned_on : sum_by bits_gained run.records ≡ gained
  pub found : sum_by bits_taken run.records ≡ taken
  pub at_end : count_below (bits_of run) (content run.words) ≡ left

-- a take between the two steps of an insert, which found some word
abbrev between : ℕ → Course
between found = record {
  start = 0 ∷ [];
  records = Began 0 (Insert 1) ∷ Did 0 (Or 0 1) 0 Running ∷ Began 1 Take
      ∷ Did 1 (step.Take 0) found Done ∷ Did 0 (Or 0 1048576) 0 (Answer false) ∷ [];
  words = 1048576 ∷ [];
}

-- the two steps of the insert
abbrev inserted : List Taken
inserted = took (Or 0 1) 0 Running ∷ took (Or 0 1048576) 0 (Answer false) ∷ []

-- the two steps are a whole insert
inserted-script : IsScript 1 2 (Insert 1) inserted
unfolding chain
inserted-script = record {
  count = refl;
  steps = each-member _ inserted (refl, (refl, tt));
  stops = tt;
  running = each-member _ inserted ((λ l. refl), ((λ l. absurd (omega (arith, l))), tt));
  last =
      each-member _ inserted (
        (λ l. absurd (omega (arith, l))),
        ((λ l. (false, refl, ((λ e. (0, took (Or 0 1) 0 Running, refl, refl)), (λ e. refl)))), tt),
      );
}

-- a take of one word
abbrev taken : List Taken
taken = took (step.Take 0) 1 Done ∷ []

-- the one step is a whole take
taken-script : IsScript 1 2 Take taken
taken-script = one-step 1 2 _ _ refl refl tt refl

-- the calls of each party are call after call
calls : (party : ℕ) → CallAfterCall 1 2 party (records_of party (between 1).records)
unfolding records_of
calls zero = whole_call (Insert 1) inserted [] inserted-script no_call
calls (suc zero) = whole_call Take taken [] taken-script no_call
calls (suc (suc party)) =
    subst (CallAfterCall 1 2 (suc (suc party)))
    (sym (none-past 2 (suc (suc party)) (between 1).records 5 refl (omega arith))) no_call

-- the course is lawful: the take finds the first bit and leaves the second
lawful-between : IsLawful 2 (between 1)
lawful-between =
    carried 2 (between 1) (lit< tt, (0, refl), (lit< tt, (0, refl), (lit< tt, (0, refl), refl)))
    refl refl (one-word 1048576 (lit< tt)) calls

-- the numbers where the take doesn't tell the bit that it cleared: 0 + 2 against 0 + 1
lost-counts : HasCounts (between 0) 0 2 0 1
unfolding content bits_on bits_new
lost-counts = record { at_start = refl; turned_on = refl; found = refl; at_end = refl }

-- a take that tells what it cleared loses nothing, and one that doesn't tell it loses a bit
loses_nothing : TakesLoseNothing (between 1) × (TakesLoseNothing (between 0) → ⊥)
loses_nothing = (
  takes_lose_nothing 2 (between 1) lawful-between,
  (λ keeps.
      let even = (keeps (every-call adds_or_takes (between 0).records refl)).whole in
      let c = lost-counts in
      omega (arith, even, c.at_start, c.turned_on, c.found, c.at_end)),
)
