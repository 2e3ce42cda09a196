-- Which calls of the worked courses are finished, and which not.
use Rattle.std.proofs.Common.{◌≡◌, ◌≢◌, ◌<◌, List, ℕ, Some, slice_get, true, refl, Bool, not, ◌&&◌, ◌||◌, ◌==◌, ap, sym, ◌∙◌, ltb}
use Rattle.bloom_steps.proofs.Common.{Step, Call, Clear, End, Running, Done, Answer, Record, Began, Did, Course, IsStepAt, IsFinished, both_ways, and_from, eq-eqb, lt-ltb}
use Rattle.bloom_steps.proofs.StepFacts.Members.{all_pass, each-passes}

-- whether a record leaves a party's call going on: it is no beginning and no end of the party's
abbrev leaves : ℕ → Record → Bool
leaves party (Began other call) = not (other == party)
leaves party (Did other step found Running) = true
leaves party (Did other step found Done) = not (other == party)
leaves party (Did other step found (Answer reply)) = not (other == party)

-- whether a record, if it lies between two, leaves a party's call going on
abbrev leaves_between : ℕ → ℕ → ℕ → ℕ → Record → Bool
leaves_between party began last m r = not (ltb began m && ltb m last) || leaves party r

-- a record that leaves a party's call going on is no beginning of the party's
no_beginning : (party : ℕ) (call : Call) → leaves party (Began party call) ≡ true → ⊥
no_beginning party call e =
    both_ways (not (party == party)) (ap not (eq-eqb party party refl)) e

-- a step of a party that leaves its call going on leaves it running
runs_on : (party : ℕ) (step : Step) (found : ℕ) (e : End)
    → leaves party (Did party step found e) ≡ true → e ≡ Running
runs_on party step found Running is = refl
runs_on party step found end is = absurd (no_beginning party Clear is)

-- a record between the two leaves a party's call going on
between : (party began last m : ℕ) (r : Record) → began < m → m < last
    → leaves_between party began last m r ≡ true → leaves party r ≡ true
between party began last m r a b is =
    let inside = and_from (ltb began m) (ltb m last) (lt-ltb began m a) (lt-ltb m last b) in
    sym (ap (λ i. not i || leaves party r) inside) ∙ is

-- a record that is a step of a party
pub step_at : {records : List Record} {m party : ℕ} {ended : End} (step : Step) (found : ℕ)
    → slice_get records m ≡ Some (Did party step found ended) → IsStepAt records m party ended
step_at step found here = record { step = step; found = found; here = here }

-- a call is finished that each record between leaves going on
pub finished : (run : Course) (party : ℕ) (call : Call) (began last : ℕ) (e : End)
    → slice_get run.records began ≡ Some (Began party call) → began < last
    → (step : Step) (found : ℕ) → slice_get run.records last ≡ Some (Did party step found e)
    → e ≢ Running → all_pass (leaves_between party began last) run.records ≡ true
    → IsFinished run party call began last e
finished run party call began last e begins order step found here over all =
    let on = each-passes (leaves_between party began last) run.records all in
    record {
      begins = begins;
      order = order;
      ends = step_at step found here;
      over = over;
      no_other = λ m other a b g.
          let r = Began party other in
          no_beginning party other (between party began last m r a b (on m r g));
      still = λ m e a b s.
          let r = Did party s.step s.found e in
          runs_on party s.step s.found e (between party began last m r a b (on m r s.here));
    }

-- whether a record begins no call, or one that passes a test
abbrev begins_passing : (Call → Bool) → Record → Bool
begins_passing test (Began party call) = test call
begins_passing test (Did party step found ended) = true

-- each call passes that begins among such records
pub every-call : (test : Call → Bool) (rs : List Record)
    → all_pass (λ i r. begins_passing test r) rs ≡ true
    → (m party : ℕ) (call : Call) → slice_get rs m ≡ Some (Began party call) → test call ≡ true
every-call test rs all m party call g =
    each-passes (λ i r. begins_passing test r) rs all m (Began party call) g
