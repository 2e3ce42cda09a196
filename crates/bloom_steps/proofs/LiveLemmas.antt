-- From the steps of a store that lends shared words to the calls on them.
use Rattle.std.proofs.Common.{◌≡◌, ◌∙◌, ℕ, ◌≤◌, Bool, List, [], ◌∷◌, Option, Some, None, ap, refl, subst, sym, arith}
use Rattle.bloom_steps.proofs.Common.{none-some, SharedWords, Contains, Insert, Done, Call, EachInTurn, IsMade, Lent, MakesCallInTurn, MakesCallOn, MakesStep, WasInserted, plan_of, Taken, Linked, IsScript, IsLastEnd, Drives, answer_of, answer_of_end}
use Rattle.bloom_steps.proofs.StepLemmas.Whole.{last-of, silent}

-- linked steps of a store were made, from turn to turn, on the words that it lends
pub steps-made : (words other : SharedWords) (taken : List Taken) (before after : Lent)
    → before.words ≡ words → before.other ≡ other → Linked MakesStep before taken after
    → Linked (IsMade words other) before.turn taken after.turn
steps-made words other [] before after is_words is_other linked =
    ap (λ (l : Lent). l.turn) linked
steps-made words other (t ∷ ts) before after is_words is_other linked =
    let mid = linked.0 in
    let step = linked.1 in (
      mid.turn,
      subst (λ o. IsMade words o before.turn t.step t.found mid.turn) is_other
          (subst (λ w. IsMade w before.other before.turn t.step t.found mid.turn) is_words step.0),
      steps-made words other ts mid after (step.1 ∙ is_words) (step.2 ∙ is_other) linked.2,
    )

-- a whole script that a store was driven through is a call on the vectors that it lends
pub drives-call : (words other : SharedWords) (hashes : ℕ) (call : Call) (reply : Option Bool)
    (store after : Lent) → store.words ≡ words → store.other ≡ other
    → Drives MakesStep store.words.count hashes call store after reply
    → MakesCallInTurn words other hashes call reply store.turn after.turn
drives-call words other hashes call reply store after is_words is_other drives = record {
  did = record {
    taken = drives.taken;
    script =
        subst (λ (v : SharedWords). IsScript v.count hashes call drives.taken) is_words
        drives.script;
    first = store.turn;
    last = after.turn;
    made = steps-made words other drives.taken store after is_words is_other drives.linked;
    answers = drives.answers;
  };
  begins = refl;
  ends = refl;
}

-- a script of an insert has an answer
pub insert-answers : (w k hash : ℕ) (s : List Taken) → 1 ≤ k → IsScript w k (Insert hash) s
    → (reply : Bool) × (answer_of s ≡ Some reply)
insert-answers w k hash s some script =
    let last = last-of s (omega (arith, some, script.count)) in
    let end = script.last last.index last.step last.stands last.is_last in
    (end.0, last.answers ∙ ap answer_of_end end.1)

-- a script of a look-up has an answer
pub contains-answers : (w k hash : ℕ) (s : List Taken) → IsScript w k (Contains hash) s
    → (reply : Bool) × (answer_of s ≡ Some reply)
contains-answers w k hash s script =
    let last = last-of s script.count.0 in
    let end = script.last last.index last.step last.stands last.is_last in
    (_, last.answers ∙ ap answer_of_end (end last.index last.step last.stands last.is_last))

-- a call whose script has an answer replies something
pub call-replies : (words other : SharedWords) (hashes : ℕ) (call : Call)
    → (calls : MakesCallOn words other hashes call None)
    → (reply : Bool) × (answer_of calls.taken ≡ Some reply) → ⊥
call-replies words other hashes call calls answer = none-some answer.0 (calls.answers ∙ answer.1)

-- a call whose script ends with `Done` replies nothing
pub call-silent : (words other : SharedWords) (hashes : ℕ) (call : Call) (reply : Option Bool)
    → (calls : MakesCallOn words other hashes call reply)
    → ((t : Taken) → IsLastEnd words.count (plan_of call) calls.taken t.ended → t.ended ≡ Done)
    → MakesCallOn words other hashes call None
call-silent words other hashes call reply calls ends = record {
  taken = calls.taken;
  script = calls.script;
  first = calls.first;
  last = calls.last;
  made = calls.made;
  answers = sym (silent calls.taken (λ i t got last. ends t (calls.script.last i t got last)));
}

-- one hash was inserted
pub insert-one : (words : SharedWords) (k hash : ℕ) (reply : Bool) (first last : ℕ)
    → MakesCallInTurn words words k (Insert hash) (Some reply) first last
    → EachInTurn (WasInserted words k) (hash ∷ []) first last
insert-one words k hash reply first last did = (last, (reply, did), refl)
