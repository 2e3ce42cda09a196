-- What every interleaving gives, for calls of any kind: the scripts of a call may be any, where
-- those of an insert set positions of its hash, and those of a look-up load their words.
use Rattle.std.proofs.Common.{◌+◌, ◌-◌, ◌<◌, ◌∙◌, ◌≡◌, ◌≤◌, Bool, List, arith, false, refl, sym, true, ℕ}
use Rattle.bloom_steps.proofs.Common.{Call, Contains, Insert, Union, End, Answer, Course, ContainsTell, FindsInserted, InsertsTell, IsFinished, NoneTurnedOff, moment, Each, Taken}
use Rattle.bloom_steps.specs.declared.steps.vocabulary.Call.TheVariants.{Take}
use Rattle.bloom_steps.specs.declared.steps.vocabulary.Step.TheVariants as step
use Rattle.bloom_steps.proofs.RunLemmas.Changes.{not_turned_off, persists}
use Rattle.bloom_steps.proofs.RunLemmas.CopySteps.{CopySteps}
use Rattle.bloom_steps.proofs.RunLemmas.InsertSteps.{InsertSteps, insert-covers, insert-tells}
use Rattle.bloom_steps.proofs.RunLemmas.LookSteps.{LookSteps, found-on, last-below, last-tells}
use Rattle.bloom_steps.proofs.RunLemmas.Positions.{both_alike}
use Rattle.bloom_steps.proofs.RunLemmas.Scripted.{IsScripted, OwnSteps, own_steps}

-- a kind of filter: the scripts of its calls, how many positions a hash has, where they are, and
-- the test of a hash in a set; and what the theorems need of these
pub record Kind : Type 1 where
  pub Script : Call → List Taken → Type 0
  pub hashes : ℕ
  pub place : ℕ → ℕ → ℕ
  pub Positions : ℕ → ℕ → Type 0
  pub is_in : ℕ → (ℕ → Bool) → Bool
  pub inserts : (hash : ℕ) (s : List Taken) → Script (Insert hash) s
      → InsertSteps (Positions hash) s
  pub look_ups : (hash : ℕ) (s : List Taken) → Script (Contains hash) s
      → LookSteps hashes (place hash) s
  pub unions : (s : List Taken) → Script Union s → CopySteps s
  pub takes : (s : List Taken) → Script Take s → Each s (λ i t. t.step ≡ step.Take i)
  pub members : (hash i : ℕ) → i < hashes → Positions hash (place hash i)
  pub all : (hash : ℕ) (A : ℕ → Bool) → ((i : ℕ) → i < hashes → A (place hash i) ≡ true)
      → is_in hash A ≡ true
  pub off : (hash : ℕ) (A : ℕ → Bool) (i : ℕ) → i < hashes → A (place hash i) ≡ false
      → is_in hash A ≡ false

-- a course of calls of a kind
module _ (kind : Kind) (run : Course) (course : IsScripted kind.Script run) where
  -- the steps of a finished insert
  pub its-insert : (party hash began last : ℕ) (ended : End)
      → IsFinished run party (Insert hash) began last ended
      → (s : List Taken) × InsertSteps (kind.Positions hash) s
      × OwnSteps run party began last ended s
  its-insert party hash began last ended fin =
      let (s, is, own) = course.calls party (Insert hash) began last ended fin in
      let steps = kind.inserts hash s is in
      (s, steps, own_steps run party began last s own (Insert hash) ended fin steps.running)

  -- the steps of a finished look-up
  its-look : (party hash began last : ℕ) (ended : End)
      → IsFinished run party (Contains hash) began last ended
      → (s : List Taken) × LookSteps kind.hashes (kind.place hash) s
      × OwnSteps run party began last ended s
  its-look party hash began last ended fin =
      let (s, is, own) = course.calls party (Contains hash) began last ended fin in
      let steps = kind.look_ups hash s is in
      (s, steps, own_steps run party began last s own (Contains hash) ended fin steps.running)

  -- a position that is set stays set where none of its hash is cleared
  stays : (hash first last m i : ℕ) → i < kind.hashes → first ≤ m → m ≤ last
      → NoneTurnedOff (kind.Positions hash) run first last → moment run m (kind.place hash i) ≡ true
      → moment run last (kind.place hash i) ≡ true
  stays hash first last m i below early late calm on =
      let p = kind.place hash i in
      persists run p m (last - m) last (omega (arith, late)) on
      (λ j l u turns.
      not_turned_off run j p
      (calm j p (omega (arith, early, l)) (omega (arith, u)) (kind.members hash i below)) turns)

  -- an insert tells of its own steps
  pub inserts : InsertsTell run
  inserts party hash began last answer fin =
      let (s, is, own) = its-insert party hash began last (Answer answer) fin in
      insert-tells course.finds is own answer refl

  -- a finished insert is found
  pub found : FindsInserted kind.Positions run
  found hash inserter first done ended ins party began last answer fin before calm =
      let at = kind.place hash in
      let (s, sets, its) = its-insert inserter hash first done ended ins in
      let (r, looks, own) = its-look party hash began last (Answer answer) fin in
      let i = own.index in
      let below = last-below course.finds looks own in
      let (m, later, upto, on) =
      insert-covers course.finds sets its (at i) (kind.members hash i below) in
      let order = fin.order in
      last-tells course.finds looks own
      ∙ stays hash first last (m + 1) i below (omega arith) (omega arith) calm on

  -- a look-up is right at the moment of its last load
  pub contains : ContainsTell kind.Positions kind.is_in run
  contains party hash began last answer fin =
      let now = moment run last in
      let (r, looks, own) = its-look party hash began last (Answer answer) fin in
      let below = last-below course.finds looks own in
      let tells = last-tells course.finds looks own in
      let lacks : answer ≡ false → kind.is_in hash now ≡ false = λ off.
      kind.off hash now own.index below (sym tells ∙ off) in
      let order = fin.order in
      record {
        within = record { after = omega arith; upto = omega arith };
        undisturbed = λ calm.
            both_alike answer (kind.is_in hash now)
            (λ hit. kind.all hash now (λ i few.
            let (m, later, upto, on) = found-on course.finds looks own hit i few in
            stays hash (began + 1) last m i few (omega (arith, later)) upto calm on))
            lacks;
        off = lacks;
      }
