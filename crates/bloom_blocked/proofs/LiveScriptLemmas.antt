-- From the steps that a live call made on its line to a script of a course.
use Rattle.std.proofs.Common.{[], ◌∙◌, ◌∷◌, ◌≡◌, ◌↔◌, Bool, List, Some, ap, arith, false, map, refl, suc, sym, true, zero, ℕ}
use Rattle.bloom_blocked.proofs.Common.{both_ways, length-map, none-some, same_Some, SharedWords, Contains, Insert, IsMade, IsMadeFrom, IsMadeAsScript, taken_from, LooksInLine, SetsInLine, start_of}
use Rattle.bloom_steps.specs.declared.steps.vocabulary.End.{End}
use Rattle.bloom_steps.specs.declared.steps.vocabulary.End.TheVariants.{Answer, Done, Running}
use Rattle.bloom_steps.specs.Scripts.{Last, Linked, Taken, answer_of, answer_of_end}
use Rattle.bloom_blocked.proofs.MovedLemmas.{each-moved}

-- steps that were made on a line were made on all words
made-moved : (vector : SharedWords) (start first last : ℕ) (s : List Taken)
    → Linked (IsMadeFrom vector start) first s last
    → Linked (IsMade vector vector) first (map (taken_from start) s) last
made-moved vector start first last [] made = made
made-moved vector start first last (t ∷ ts) (mid, step, rest) =
    (mid, step, made-moved vector start mid last ts rest)

-- a call whose last step has this answer ended with it
end-answer : (end : End) (reply : Bool) → Some reply ≡ answer_of_end end → end ≡ Answer reply
end-answer Running reply e = absurd (none-some reply (sym e))
end-answer Done reply e = absurd (none-some reply (sym e))
end-answer (Answer told) reply e = ap Answer (sym (same_Some reply told e))

-- the last of steps that have this answer ended with it
last-answer : (s : List Taken) (reply : Bool) → Some reply ≡ answer_of s
    → Last s (λ i t. t.ended ≡ Answer reply)
last-answer [] reply e i t got closes = absurd (none-some t got)
last-answer (u ∷ []) reply e zero t got closes =
    ap (λ (v : Taken). v.ended) (sym (same_Some u t got)) ∙ end-answer u.ended reply e
last-answer (u ∷ []) reply e (suc i) t got closes = absurd (none-some t got)
last-answer (u ∷ (v ∷ rest)) reply e zero t got closes = absurd (omega (arith, closes))
last-answer (u ∷ (v ∷ rest)) reply e (suc i) t got closes =
    last-answer (v ∷ rest) reply e i t got (omega (arith, closes))

-- how the last step ended stays where steps are moved
last-moved : (start : ℕ) (s : List Taken) (end : End) → Last s (λ i t. t.ended ≡ end)
    → Last (map (taken_from start) s) (λ i t. t.ended ≡ end)
last-moved start s end ends =
    each-moved (taken_from start) s _ (λ i t g closes.
    ends i t g (closes ∙ length-map s (taken_from start)))

-- two replies that are false in the same case are the same
same-reply : (a b : Bool) {P : Type 0} → ((a ≡ false) ↔ P) → ((b ≡ false) ↔ P) → a ≡ b
same-reply true true one other = refl
same-reply false false one other = refl
same-reply true false one other = absurd (both_ways true (one.1 (other.0 refl)) refl)
same-reply false true one other = absurd (both_ways true (other.1 (one.0 refl)) refl)

-- the last step of an insert ended with its reply
insert-ends : (vector : SharedWords) (k hash : ℕ) (reply : Bool)
    (did : SetsInLine vector k hash reply) → Last did.taken (λ i t. t.ended ≡ Answer reply)
insert-ends vector k hash reply did i t got closes =
    let (told, ended, tells) = did.script.last i t got closes in
    ended ∙ ap Answer (same-reply told reply tells did.answers)

-- what live calls promise is what a course asks
pub live_script_law : (vector : SharedWords) (k hash : ℕ) (reply : Bool)
    → (SetsInLine vector k hash reply → IsMadeAsScript vector k (Insert hash) reply)
    × (LooksInLine vector k hash reply → IsMadeAsScript vector k (Contains hash) reply)
live_script_law vector k hash reply = (
  (λ did. record {
    steps = map (taken_from (start_of vector hash)) did.taken;
    script = (did.taken, did.script, refl);
    first = did.first;
    last = did.last;
    made = made-moved vector (start_of vector hash) did.first did.last did.taken did.made;
    ends =
        last-moved (start_of vector hash) did.taken (Answer reply)
        (insert-ends vector k hash reply did);
  }),
  (λ did. record {
    steps = map (taken_from (start_of vector hash)) did.taken;
    script = (did.taken, did.script, refl);
    first = did.first;
    last = did.last;
    made = made-moved vector (start_of vector hash) did.first did.last did.taken did.made;
    ends =
        last-moved (start_of vector hash) did.taken (Answer reply)
        (last-answer did.taken reply did.answers);
  }),
)
