-- What every interleaving of calls of any kind gives, and with it how growing courses end.
use Rattle.std.proofs.Common.{◌/◌, ◌≡◌, Bool, inl, inr, true, ℕ, ◌↔◌, ◌⊎◌}
use Rattle.bloom_steps.proofs.Common.{content, Call, Insert, CourseTells, EachStepOf, EndsWithInserts, HasFinishedInsert, Course, GainsOnce, IsFoundInOther, goes_by_hash, plan_of, turns_none_off}
use Rattle.bloom_steps.specs.declared.steps.vocabulary.Step.TheVariants as step
use Rattle.bloom_steps.proofs.RunLemmas.Growing.{Owners, ends}
use Rattle.bloom_steps.proofs.RunLemmas.KindSteps.{Finished, adds-or-loads, adds-or-takes, in-script}
use Rattle.bloom_steps.proofs.RunLemmas.KindTakes.{loses-no-position, takes-what-is-there}
use Rattle.bloom_steps.proofs.RunLemmas.Kinds.{Kind, contains, found, inserts}
use Rattle.bloom_steps.proofs.RunLemmas.Scripted.{IsScripted, record-of}
use Rattle.bloom_steps.proofs.RunLemmas.Taken.{gains_once, loses_nothing}
use Rattle.bloom_steps.proofs.StepLemmas.Plans.{hash-grows}

-- a course of calls of a kind
module _ (kind : Kind) (run : Course) (course : IsScripted kind.Script run) where
  -- where each step is one of a finished call that clears nothing, just the start, the inserts and
  -- what unions found are there in the end
  ends-in : {test : Call → Bool} → EachStepOf test run
      → ((call : Call) → test call ≡ true → turns_none_off (plan_of call) ≡ true)
      → (p : ℕ) → (content run.words p ≡ true) ↔ ((content run.start p ≡ true)
      ⊎ (HasFinishedInsert kind.Positions run p ⊎ IsFoundInOther run p))
  ends-in each grows =
      let owners : Owners kind run (Finished kind run course) = record {
        is = λ party call s (began, last, ended, fin, is, own). is;
        members = λ party call s (began, last, ended, fin, is, own) i t g.
            let at = record-of run party began last s own i t g in (at.m, at.is);
        each = λ m party t g.
            let (call, s, of, passes, at) = in-script kind run course each m party t g in
            (call, s, of, grows call passes, at);
      } in
      ends kind run course.bits (Finished kind run course) owners
      (HasFinishedInsert kind.Positions run)
      (λ p (party, hash, s, (began, last, ended, fin, is, own), position). record {
        party = party;
        hash = hash;
        began = began;
        last = last;
        ended = ended;
        finished = fin;
        position = position;
      })
      (λ p i.
      let (s, is, own) =
      course.calls i.party (Insert i.hash) i.began i.last i.ended i.finished in
      (i.party, i.hash, s, (i.began, i.last, i.ended, i.finished, is, own), i.position))

  -- calls that go by a hash look at no other filter
  none-found : EachStepOf (λ call. goes_by_hash (plan_of call)) run → (p : ℕ)
      → IsFoundInOther run p → ⊥
  none-found each p x =
      let did = step.Other (p / 64) in
      elim (adds-or-loads kind run course each x.m x.party did x.found x.ended x.reads) [
        | inl (w, mask, is) ↦ cc
        | inr (i, is) ↦ cc
      ]

  -- in the end just the start and the inserts are there
  ends-with-inserts : EndsWithInserts kind.Positions run
  ends-with-inserts each p =
      let all = ends-in each (λ call. hash-grows (plan_of call)) p in (
        (λ on. elim (all.0 on) [
          | inl before ↦ inl before
          | inr y ↦ elim y [ inl i ↦ inr i | inr o ↦ absurd (none-found each p o) ]
        ]),
        (λ x. all.1 (elim x [ inl before ↦ inl before | inr i ↦ inr (inl i) ])),
      )

  -- each position is set once
  gains-each-once : EachStepOf (λ call. goes_by_hash (plan_of call)) run → GainsOnce run
  gains-each-once each =
      gains_once run course.bits course.finds course.within (adds-or-loads kind run course each)
      (λ p on. (ends-with-inserts each p).1 (inl on))

  -- what every interleaving gives
  pub kind_tells : CourseTells kind.Positions kind.is_in run
  kind_tells = record {
    bits = course.bits;
    inserts = inserts kind run course;
    found = found kind run course;
    contains = contains kind run course;
    grows = ends-with-inserts;
    unites = λ each. ends-in each (λ call passes. passes);
    gained = gains-each-once;
    kept = loses-no-position kind run course;
    balanced = λ each.
        loses_nothing run course.bits course.finds course.within
        (adds-or-takes kind run course each);
    taken = takes-what-is-there kind run course;
  }
