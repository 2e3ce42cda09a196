-- What the steps of finished calls are, for calls of any kind.
use Rattle.std.proofs.Common.{◌≡◌, Bool, List, Some, false, inl, inr, refl, slice_get, true, ℕ}
use Rattle.bloom_steps.proofs.Common.{both_ways, Call, Contains, Insert, Did, End, EachStepOf, Course, IsFinished, MadeBetween, adds_or_takes, goes_by_hash, plan_of, Taken}
use Rattle.bloom_steps.specs.declared.steps.vocabulary.Call.TheVariants.{Take}
use Rattle.bloom_steps.proofs.RunLemmas.Balances.{AddsOrLoads, AddsOrTakes}
use Rattle.bloom_steps.proofs.RunLemmas.Kinds.{Kind}
use Rattle.bloom_steps.proofs.RunLemmas.Scripted.{EachStep, IsScripted, step-of}
use Rattle.bloom_steps.proofs.StepLemmas.Driving.{made}

-- a call that goes by a hash is an insert or a look-up
pub of-hash : (P : Call → Type 0) → ((hash : ℕ) → P (Insert hash))
    → ((hash : ℕ) → P (Contains hash)) → (call : Call) → goes_by_hash (plan_of call) ≡ true → P call
of-hash P ins look (Insert hash) passes = ins hash
of-hash P ins look (Contains hash) passes = look hash
of-hash P ins look call passes = absurd (both_ways false refl passes)

-- a call that adds or takes is an insert, a look-up or a take
pub of-adder : (P : Call → Type 0) → ((hash : ℕ) → P (Insert hash))
    → ((hash : ℕ) → P (Contains hash)) → P Take → (call : Call) → adds_or_takes call ≡ true → P call
of-adder P ins look takes (Insert hash) passes = ins hash
of-adder P ins look takes (Contains hash) passes = look hash
of-adder P ins look takes Take passes = takes
of-adder P ins look takes call passes = absurd (both_ways false refl passes)

-- a course of calls of a kind
module _ (kind : Kind) (run : Course) (course : IsScripted kind.Script run) where
  -- a finished call, by its script
  abbrev pub Finished : ℕ → Call → List Taken → Type 0
  Finished party call s = (began : ℕ) × (last : ℕ) × (ended : End)
      × IsFinished run party call began last ended × kind.Script call s
      × MadeBetween run party began last s

  -- each step is one of a finished call that passes the test
  pub in-script : {test : Call → Bool} → EachStepOf test run → (m party : ℕ) (t : Taken)
      → slice_get run.records m ≡ Some (Did party t.step t.found t.ended)
      → (call : Call) × (s : List Taken) × Finished party call s × (test call ≡ true)
      × ((i : ℕ) × (slice_get s i ≡ Some t))
  in-script each m party t g =
      let of = each m party t.ended (record { step = t.step; found = t.found; here = g }) in
      let (s, is, own) = course.calls party of.call of.began of.last of.ended of.finished in (
        of.call,
        s,
        (of.began, of.last, of.ended, of.finished, is, own),
        of.passes,
        step-of run party of.began of.last s own m t of.later of.upto g,
      )

  -- inserts and look-ups set bits or load words
  pub adds-or-loads : EachStepOf (λ call. goes_by_hash (plan_of call)) run
      → EachStep AddsOrLoads run
  adds-or-loads each m party did found ended g =
      let t = made did found ended in
      let (call, s, (began, last, end, fin, is, own), passes, (i, got)) =
      in-script each m party t g in
      of-hash (λ call. kind.Script call s → AddsOrLoads did)
      (λ hash is. inl ((kind.inserts hash s is).masks i t got))
      (λ hash is. inr (_, (kind.look_ups hash s is).steps i t got)) call passes is

  -- inserts, look-ups and takes set bits, load words or take them
  pub adds-or-takes : EachStepOf adds_or_takes run → EachStep AddsOrTakes run
  adds-or-takes each m party did found ended g =
      let t = made did found ended in
      let (call, s, (began, last, end, fin, is, own), passes, (i, got)) =
      in-script each m party t g in
      of-adder (λ call. kind.Script call s → AddsOrTakes did)
      (λ hash is. inl (inl ((kind.inserts hash s is).masks i t got)))
      (λ hash is. inl (inr (_, (kind.look_ups hash s is).steps i t got)))
      (λ is. inr (i, kind.takes s is i t got)) call passes is
