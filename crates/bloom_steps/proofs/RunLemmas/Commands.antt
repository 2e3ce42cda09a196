-- Whole calls, one after the other, act as the list of their commands.
use Rattle.std.proofs.Common.{[], ◌*◌, ◌∙◌, ◌∷◌, ◌≡◌, ◌≤◌, Bool, List, Some, ap, length, map, refl, slice_get, subst, suc, sym, take, unwrap_or, zero, ℕ}
use Rattle.bloom_steps.proofs.Common.{none-some, same_Some, content, Record, Began, answer_of, ActsAs, ActsAsCommands, Cut, MadeCall, command_of, commands_of, cut, other_words, after_records, Course, IsLawful, call_records, did}
use Rattle.bloom_parts.specs.Operations.{Operation, decides, reply, state_after}
use Rattle.bloom_steps.proofs.RunLemmas.CallSets.{call-steps}
use Rattle.bloom_steps.proofs.RunLemmas.CallReplies.{call-answer}
use Rattle.bloom_steps.proofs.RunLemmas.Bounds.{moment-past}
use Rattle.bloom_steps.proofs.RunLemmas.OneByOne.{OneByOne, cut-calls, next_call, no_more, one_by_one}
use Rattle.bloom_steps.proofs.RunLemmas.CallSteps.{Fits, fits-back, fits-front}
use Rattle.bloom_steps.proofs.StepLemmas.Deciding.{records-append, state-first, state-same}

-- the set and the answers of calls, over a set of w words
record Acts (w k : ℕ) (A : ℕ → Bool) (rs : List Record) (made : List MadeCall) : Type 0 where
  pub set : (q : ℕ) → after_records A rs q ≡ state_after (64 * w) k A (commands_of made) q
  pub answers : (i : ℕ) (m : MadeCall) → slice_get made i ≡ Some m → answer_of m.taken
      ≡ reply (64 * w) k (state_after (64 * w) k A (commands_of (take i made)))
      (command_of m.call (content (other_words m.taken)))

-- whole calls, one after the other, act as their commands
acts : (w k : ℕ) (A : ℕ → Bool) (rs : List Record) (made : List MadeCall) → 1 ≤ k
    → OneByOne w k rs made → Fits w A rs → Acts w k A rs made
acts w k A _ _ some_hashes no_more f =
    record { set = λ q. refl; answers = λ i m g. absurd (none-some m g) }
acts w k A _ _ some_hashes (next_call p call s later made is more) f =
    let n = 64 * w in
    let whole = call_records p call s in
    let B = after_records A whole in
    let C = after_records A (Began p call ∷ []) in
    let its = fits-back w A (Began p call ∷ []) (did p s) (fits-front w A whole later f) in
    let rest = acts w k B later made some_hashes more (fits-back w A whole later f) in
    let other = content (other_words s) in
    let d = decides n k (command_of call other) in
    let D = map (decides n k) (commands_of made) in
    let after : (q : ℕ) → B q ≡ unwrap_or (d q) (A q) =
    λ q. records-append A (Began p call ∷ []) (did p s) q ∙ call-steps w k p s C call q is its in
    let next : (ops : List Operation) (q : ℕ) → state_after n k B ops q ≡ state_after n k A
    (command_of call other ∷ ops) q =
    λ ops q.
    state-same B (λ j. unwrap_or (d j) (A j)) (map (decides n k) ops) q (after q)
    ∙ sym (state-first A d (map (decides n k) ops) q) in
    let answer_at : (i : ℕ) (m : MadeCall) → slice_get
    (record { call = call; taken = s } ∷ made) i ≡ Some m → answer_of m.taken
    ≡ reply n k
    (state_after n k A (commands_of (take i (record { call = call; taken = s } ∷ made))))
    (command_of m.call (content (other_words m.taken))) =
    answers B (call-answer w k p s C its call other some_hashes is) next rest in
    record {
      set = λ q. records-append A whole later q ∙ rest.set q
          ∙ next (commands_of made) q;
      answers = answer_at;
    }
  where
    answers : (B : ℕ → Bool)
        → answer_of s ≡ reply (64 * w) k (after_records A (Began p call ∷ []))
        (command_of call (content (other_words s)))
        → ((ops : List Operation) (q : ℕ)
        → state_after (64 * w) k B ops q ≡ state_after (64 * w) k A
        (command_of call (content (other_words s)) ∷ ops) q)
        → Acts w k B later made → (i : ℕ) (m : MadeCall)
        → slice_get (record { call = call; taken = s } ∷ made) i ≡ Some m
        → answer_of m.taken
        ≡ reply (64 * w) k
        (state_after (64 * w) k A (commands_of (take i (record { call = call; taken = s } ∷ made))))
        (command_of m.call (content (other_words m.taken)))
    answers B mine next rest zero m g =
        subst
        (λ (m : MadeCall). answer_of m.taken ≡ reply (64 * w) k A
        (command_of m.call (content (other_words m.taken))))
        (same_Some _ _ g)
        mine
    answers B mine next rest (suc i) m g =
        rest.answers i m g
        ∙ ap (λ C. reply (64 * w) k C (command_of m.call (content (other_words m.taken))))
        (λ j q. next (commands_of (take i made)) q j)

-- one call at a time behaves as the list of commands
pub acts_as_commands : (k : ℕ) (run : Course) → IsLawful k run → 1 ≤ k → ActsAsCommands k run
acts_as_commands k run lawful some_hashes one ended =
    let w = length run.start in
    let made = one_by_one w k run.records lawful.calls one ended in
    let fits : Fits w (content run.start) run.records =
    record { finds = lawful.finds; within = moment-past k run lawful } in
    let a = acts w k (content run.start) run.records made.0 some_hashes made.1 fits in
    let same : made.0 ≡ (cut run.records).calls =
    sym (ap (λ (c : Cut). c.calls) (cut-calls w k run.records made.0 made.1)) in
    subst (ActsAs k run) same (record { bits = λ p. lawful.bits p ∙ a.set p; answers = a.answers })
