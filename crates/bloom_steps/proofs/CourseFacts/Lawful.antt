-- Worked courses that are lawful.
use Rattle.std.proofs.Common.{◌≡◌, ◌∷◌, [], Bool, List, ℕ, zero, suc, true, false, refl, arith, sym, subst, length, lit<, ltb, ◌<◌, ◌^◌, ◌∙◌}
use Rattle.std.proofs.lemmas.List.Elements.{All-cons, All-nil}
use Rattle.bloom_steps.proofs.Common.{ltb-true, chain, AreWords, bit_is_on, content, CarriedOut, Course, Record, moment, place, Load, Or, Other, Insert, Contains, Union, Began, Did, Running, Answer, Any, Taken, IsScript, CallAfterCall, IsLawful, no_call, begun_call, whole_call, records_of}
use Rattle.bloom_steps.proofs.RunLemmas.CarriedOut.{carried-bits, carried-step}
use Rattle.bloom_steps.proofs.RunLemmas.Worlds.{may_find-read}
use Rattle.bloom_steps.proofs.StepFacts.Members.{all_pass, each-member, each-passes, one-step, took}
use Rattle.bloom_steps.proofs.StepFacts.Pairs.{read_write, read_write-script}
use Rattle.bloom_steps.proofs.StepFacts.Scripts.{insert, is_script}
use Rattle.bloom_steps.proofs.CourseFacts.Courses.{twins, in_turn, insert_then_contains}
use Rattle.bloom_steps.proofs.CourseFacts.Parties.{none-past}
use Rattle.bloom_steps.proofs.StepLemmas.Finding.{ends-off}

-- whether the word that a step found has 64 bits
abbrev found_fits : Record → Bool
found_fits (Began party call) = true
found_fits (Did party step found ended) = ltb found (2 ^ 64)

-- a course whose steps are carried out on its words, call after call, is lawful
pub carried : (k : ℕ) (run : Course) → CarriedOut run.start run.records run.words
    → all_pass (λ i r. found_fits r) run.records ≡ true → length run.words ≡ length run.start
    → AreWords run.words
    → ((party : ℕ) → CallAfterCall (length run.start) k party (records_of party run.records))
    → IsLawful k run
carried k run made fits count words calls = record {
  finds = λ m party step found ended g.
      let is = carried-step run.start run.records run.words made m party step found ended g in
      let small = each-passes (λ i r. found_fits r) run.records fits m _ g in
      may_find-read (moment run m) is.now is.given found step is.bits is.finds
      (ltb-true found (2 ^ 64) small);
  calls = calls;
  count = count;
  bits = λ p. carried-bits run.start run.records run.words p made;
  fit = words;
}

-- one word of 64 bits
pub one-word : (word : ℕ) → word < 2 ^ 64 → AreWords (word ∷ [])
one-word word fits = All-cons (λ w. w < 2 ^ 64) word [] fits (All-nil (λ w. w < 2 ^ 64))

-- an insert of one step, which found its bit clear
abbrev inserted : List Taken
inserted = took (Or 0 1) 4 (Answer false) ∷ []

-- an or that found its bit clear is a whole insert of one hash
pub inserted-script : IsScript 1 1 (Insert 0) inserted
unfolding chain
inserted-script = one-step 1 1 _ _ refl refl tt (ends-off 1 0 inserted 0 _ refl refl)

-- a look-up of one load, which found its bit set
abbrev found : List Taken
found = took (Load 0) 5 (Answer true) ∷ []

-- a load that found its bit set is a whole look-up of one hash
found-script : IsScript 1 1 (Contains 0) found
unfolding chain
found-script =
    one-step 1 1 _ _ (omega arith, omega arith) refl
    (record {
      earlier = each-member _ found ((λ l. absurd (omega (arith, l))), tt);
      early = each-member _ found ((λ l m. absurd (omega (arith, m))), tt);
    })
    (each-member _ found ((λ m. refl), tt))

-- the calls of each party of the insert, the look-up and the union
calls : (party : ℕ) → CallAfterCall 1 1 party (records_of party insert_then_contains.records)
unfolding records_of
calls zero =
    whole_call (Insert 0) inserted _ inserted-script
    (begun_call Union (took (Other 0) 9 Running ∷ [])
    (record { next = _; rest = _; script = read_write-script 1 9 }))
calls (suc zero) = whole_call (Contains 0) found [] found-script no_call
calls (suc (suc party)) =
    subst (CallAfterCall 1 1 (suc (suc party)))
    (sym (none-past 2 (suc (suc party)) insert_then_contains.records 6 refl (omega arith))) no_call

-- an insert, then a look-up of its hash, and a union that isn't finished, are lawful
pub lawful-insert_then_contains : IsLawful 1 insert_then_contains
lawful-insert_then_contains =
    carried 1 insert_then_contains
    (lit< tt, (0, refl), (lit< tt, (0, refl), (lit< tt, (9, refl), refl)))
    refl refl (one-word 5 (lit< tt)) calls

-- the steps of the first of the twins
abbrev first : List Taken
first = took (Or 0 1) 0 Running ∷ took (Or 0 1048576) 1048577 (Answer false) ∷ []

-- the steps of the first of the twins are a whole insert
first-script : IsScript 1 2 (Insert 1) first
unfolding chain
first-script = record {
  count = refl;
  steps = each-member _ first (refl, (refl, tt));
  stops = tt;
  running = each-member _ first ((λ l. refl), ((λ l. absurd (omega (arith, l))), tt));
  last =
      each-member _ first
      ((λ l. absurd (omega (arith, l))), ((λ l. ends-off 1 1 first 0 _ refl refl), tt));
}

-- the calls of the twins: the second's steps are those of an insert that found its second bit clear
calls-twins : (party : ℕ) → CallAfterCall 1 2 party (records_of party twins.records)
unfolding records_of
calls-twins zero = whole_call (Insert 1) first [] first-script no_call
calls-twins (suc zero) = whole_call (Insert 1) insert [] is_script.0 no_call
calls-twins (suc (suc party)) =
    subst (CallAfterCall 1 2 (suc (suc party)))
    (sym (none-past 2 (suc (suc party)) twins.records 6 refl (omega arith))) no_call

-- the twins were carried out
pub twins-carried : CarriedOut twins.start twins.records twins.words
twins-carried = (
  lit< tt,
  (0, refl),
  (lit< tt, (0, refl), (lit< tt, (0, refl), (lit< tt, (0, refl), refl))),
)

-- two inserts of one fresh hash are lawful
pub lawful-twins : IsLawful 2 twins
lawful-twins = carried 2 twins twins-carried refl refl (one-word 1048577 (lit< tt)) calls-twins

-- an insert of one step, which found its bit set
abbrev known : List Taken
known = took (Or 0 1) 5 (Answer true) ∷ []

-- an or that found its bit set is a whole insert of one hash
known-script : IsScript 1 1 (Insert 0) known
unfolding chain
known-script = one-step 1 1 _ _ refl refl tt (true, refl, ((λ e. absurd (cc)), off))
  where
    off : Any known (λ i t. bit_is_on t.found (place 64 0 i) ≡ false) → true ≡ false
    off (i, t, here, is) =
        let on =
        each-member (λ j u. bit_is_on u.found (place 64 0 j) ≡ true) known (refl, tt) i t here in
        sym on ∙ is

-- the calls of each party of a union, and then an insert
calls-in_turn : (party : ℕ) → CallAfterCall 1 1 party (records_of party in_turn.records)
unfolding records_of
calls-in_turn zero = whole_call Union (read_write 5) [] (read_write-script 1 5) no_call
calls-in_turn (suc zero) = whole_call (Insert 0) known [] known-script no_call
calls-in_turn (suc (suc party)) =
    subst (CallAfterCall 1 1 (suc (suc party)))
    (sym (none-past 2 (suc (suc party)) in_turn.records 5 refl (omega arith))) no_call

-- a union, and then an insert, are lawful
pub lawful-in_turn : IsLawful 1 in_turn
lawful-in_turn =
    carried 1 in_turn (lit< tt, (5, refl), (lit< tt, (0, refl), (lit< tt, (0, refl), refl)))
    refl refl (one-word 5 (lit< tt)) calls-in_turn

-- an insert and a look-up are lawful, and not where the look-up loads the word as it was before
lawful : IsLawful 1 insert_then_contains
    × (IsLawful 1 (record insert_then_contains {
      records =
          Began 0 (Insert 0) ∷ Did 0 (Or 0 1) 4 (Answer false) ∷ Began 1 (Contains 0)
          ∷ Did 1 (Load 0) 4 (Answer true) ∷ Began 0 Union ∷ Did 0 (Other 0) 9 Running ∷ [];
    }) → ⊥)
unfolding content
lawful = (
  lawful-insert_then_contains,
  (λ is. let bit = (is.finds 3 1 (Load 0) 4 (Answer true) refl).bits 0 refl in cc),
)
