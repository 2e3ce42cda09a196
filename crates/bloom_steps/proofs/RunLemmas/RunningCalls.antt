-- Whether a party runs a call: its newest record.
use Rattle.bloom_steps.proofs.Common.{plan_of, Call, End, Answer, Done, Running, Record, Began, Did, Step, Machine, StandsAt, Each, IsBeginning, IsScript, Taken, did, last_leaves_running, leaves_running, records_of, runs}
use Rattle.std.proofs.Common.{[], ◌++◌, ◌+◌, ◌<◌, ◌∙◌, ◌∷◌, ◌≡◌, ◌≢◌, ◌≤◌, ◌⊎◌, Bool, List, ap, arith, false, inl, inr, length, not, refl, subst, suc, sym, true, ℕ}
use Rattle.bloom_parts.specs.Operations.{reply}
use Rattle.bloom_steps.proofs.RunLemmas.PartyRecords.{records_of-append}
use Rattle.bloom_steps.proofs.StepLemmas.Whole.{beginning_runs, end_after, last-not_running, last-of, script_some}

-- whether a call goes on after a step
abbrev pub is_running : End → Bool
is_running Running = true
is_running Done = false
is_running (Answer reply) = false

-- whether a call goes on after these steps
abbrev pub still_runs : List Taken → Bool
still_runs s = is_running (end_after s)

-- each step but the last leaves the call running, and the last doesn't
pub record OneEnd (s : List Taken) : Type 0 where
  pub some : 1 ≤ length s
  pub running : Each s (λ i t. i + 1 < length s → t.ended ≡ Running)
  pub ended : Each s (λ i t. i + 1 ≡ length s → t.ended ≢ Running)

-- the first of steps that have one end leaves the call running and the others have one end, or it
-- is the only one
pub one_end-first : (t : Taken) (s : List Taken) → OneEnd (t ∷ s)
    → ((t.ended ≡ Running) × OneEnd s) ⊎ ((t.ended ≢ Running) × (s ≡ []))
one_end-first t [] one = inr (one.ended 0 t refl refl, refl)
one_end-first t (u ∷ s) one = inl (
  one.running 0 t refl (omega arith),
  record {
    some = omega arith;
    running = λ i v g l. one.running (suc i) v g (omega arith);
    ended = λ i v g l. one.ended (suc i) v g (omega arith);
  },
)

-- a whole script has one end
pub one_end-script : (w k : ℕ) (call : Call) (s : List Taken) → 1 ≤ length s → IsScript w k call s
    → OneEnd s
one_end-script w k call s some is = record {
  some = some;
  running = is.running;
  ended = λ i t g l. last-not_running w (plan_of call) s i t g l (is.last i t g l);
}

-- the newest of two lists is that of the second, where it has one
pub newest-append : (xs ys : List Record) (y : Record)
    → last_leaves_running (xs ++ y ∷ ys) ≡ last_leaves_running (y ∷ ys)
newest-append [] ys y = refl
newest-append (x ∷ []) ys y = refl
newest-append (x ∷ (z ∷ xs)) ys y = newest-append (z ∷ xs) ys y

-- a record of a step leaves a call running as the step does
leaves-did : (p : ℕ) (step : Step) (found : ℕ) (e : End)
    → leaves_running (Did p step found e) ≡ is_running e
leaves-did p step found Running = refl
leaves-did p step found end = refl

-- records of steps leave a call running as the last does
newest-did : (p : ℕ) (t : Taken) (s : List Taken)
    → last_leaves_running (did p (t ∷ s)) ≡ still_runs (t ∷ s)
newest-did p t [] = leaves-did p t.step t.found t.ended
newest-did p t (u ∷ s) = newest-did p u s

-- a call runs as its steps say
pub newest-call : (p : ℕ) (call : Call) (s : List Taken)
    → last_leaves_running (Began p call ∷ did p s) ≡ still_runs s
newest-call p call [] = refl
newest-call p call (t ∷ s) = newest-did p t s

-- what runs after the later records runs after all
pub newest_kept : (xs ys : List Record) → last_leaves_running ys ≡ true
    → last_leaves_running (xs ++ ys) ≡ true
newest_kept [] ys e = e
newest_kept (x ∷ []) [] e = absurd (cc)
newest_kept (x ∷ []) (y ∷ ys) e = e
newest_kept (x ∷ (z ∷ xs)) ys e = newest_kept (z ∷ xs) ys e

-- a party that runs a call after the later records runs it after all
pub runs_after : (p : ℕ) (xs ys : List Record) → runs p ys ≡ true → runs p (xs ++ ys) ≡ true
runs_after p xs ys e =
    ap last_leaves_running (records_of-append p xs ys)
    ∙ newest_kept (records_of p xs) (records_of p ys) e

-- where each step leaves the call running the call goes on
still_runs-all : (s : List Taken) → Each s (λ i t. t.ended ≡ Running) → still_runs s ≡ true
still_runs-all [] all = refl
still_runs-all (t ∷ []) all = ap is_running (all 0 t refl)
still_runs-all (t ∷ (u ∷ s)) all = still_runs-all (u ∷ s) (λ i v g. all (suc i) v g)

-- after a beginning the call goes on
pub still_runs-beginning : (w k : ℕ) (call : Call) (s : List Taken) → IsBeginning w k call s
    → still_runs s ≡ true
still_runs-beginning w k call s begun =
    still_runs-all s (λ i t g. beginning_runs w k call s i t begun g)

-- an end that isn't running is over
not_running : (e : End) → e ≢ Running → is_running e ≡ false
not_running Running apart = absurd (apart refl)
not_running end apart = refl

-- after a whole script the call has ended
pub still_runs-script : (w k : ℕ) (call : Call) (s : List Taken) → 1 ≤ w → 1 ≤ k
    → IsScript w k call s
    → still_runs s ≡ false
still_runs-script w k call s some_words some_hashes is =
    let last = last-of s (script_some w k call s some_words some_hashes is) in
    let end = is.last last.index last.step last.stands last.is_last in
    ap is_running last.ends
    ∙ not_running last.step.ended
    (last-not_running w (plan_of call) s last.index last.step last.stands last.is_last end)

-- a machine's call goes on exactly if its steps so far leave it running
pub still_runs-machine : (m : Machine) (w k : ℕ) (call : Call) (s : List Taken)
    → StandsAt m w k call s
    → still_runs s ≡ not m.ended
still_runs-machine m w k call s st = go m.ended refl
  where
    go : (b : Bool) → m.ended ≡ b → still_runs s ≡ not m.ended
    go true is =
        still_runs-script w k call s (subst (λ n. 1 ≤ n) st.words m.some_words)
        (subst (λ n. 1 ≤ n) st.hashes m.some_hashes) (st.whole is)
        ∙ sym (ap not is)
    go false is =
        let on = st.goes_on is in
        still_runs-all s on.running ∙ sym (ap not is)
