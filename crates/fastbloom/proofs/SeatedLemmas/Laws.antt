-- The laws of seated filters.
use Rattle.std.proofs.Common.{◌≡◌, ℕ, suc, ◌≤◌, ◌/◌, Bool, true, false, ◌||◌, ◌&&◌, eqb, List, [], ◌∷◌, sum_by, count_by, if◌then◌else◌, cond, Some, None, unwrap_or, inl, inr, refl, ◌∙◌, arith}
use mathlib.Core.Option.{some}
use lib.ListN.{get_elem?}
use Rattle.fastbloom.proofs.Common.{or_left, or_right, bit_is_on, content, IsPart, Sight, known_of, seated_num_bits, seated_positions, InsertsAs, passes_of, First, Pass, Note, Spent, Sets}
use Rattle.std.proofs.lemmas.List.Sums.{sum_by-cons}
use Rattle.fastbloom.specs.SeatedLaws.{SureFoundLaw, InsertedLaw, KnownLaw, StaysLaw, MetLaw, FewLaw, OrLaw, is_pass, is_pass_role}
use Rattle.fastbloom.specs.declared.seated.rule.Role.{Role}
use Rattle.fastbloom.proofs.SeatedLemmas.Calls.{finds-sure, inserts-sure, known-sure}
use Rattle.fastbloom.proofs.SeatedLemmas.Words.{content-with_bits}

-- the laws on what a pass can be sure of
pub found_law : SureFoundLaw
found_law f old new hash answer sure did =
    finds-sure (seated_num_bits f) f.hashes hash old new answer did sure

pub inserted_law : InsertedLaw
inserted_law f old new hash answer sure did =
    inserts-sure (seated_positions f hash) old new answer did sure

-- a part of what was known is a part of more
more-known : (P : ℕ → Bool) (old new : Sight) → IsPart P (known_of old)
    → IsPart (known_of old) (known_of new) → IsPart P (known_of new)
more-known P old new known kept p is = kept p (known p is)

-- an insert keeps what was known
insert-keeps : (P : ℕ → Bool) (old new : Sight) (answer : Bool) → InsertsAs P old new answer
    → IsPart (known_of old) (known_of new)
insert-keeps P old new answer did p is = did.known p ∙ or_left (known_of old p) (P p) is

-- the law that what was inserted is known
pub known_law : KnownLaw
known_law f old new hash answer did p is =
    did.known p ∙ or_right (known_of old p) (seated_positions f hash p) is

-- the law that what is known stays known
pub stays_law : StaysLaw
stays_law = record {
  insert = λ f P old new hash answer known did.
      more-known (seated_positions f hash) old new known (insert-keeps P old new answer did);
  look = λ f n k other old new hash answer known did.
      more-known (seated_positions f hash) old new known did.looks.kept;
  meeting = λ f a b a_new b_new hash known met. elim known [
    | inl mine ↦ (
      (λ p is. met.known_a p (or_left (known_of a p) (known_of b p) (mine p is))),
      λ p is. met.known_b p (or_left (known_of a p) (known_of b p) (mine p is)),
    )
    | inr theirs ↦ (
      (λ p is. met.known_a p (or_right (known_of a p) (known_of b p) (theirs p is))),
      λ p is. met.known_b p (or_right (known_of a p) (known_of b p) (theirs p is)),
    )
  ];
}

-- the law on passes that met
pub met_law : MetLaw
met_law = record {
  found = λ f a b a_new b_new later hash answer known met did.
      found_law f b_new later hash answer
      (known-sure (seated_positions f hash) b_new
      (stays_law.meeting f a b a_new b_new hash (inl known) met).1) did;
  inserted = λ f a b a_new b_new later hash answer known met did.
      inserted_law f b_new later hash answer
      (known-sure (seated_positions f hash) b_new
      (stays_law.meeting f a b a_new b_new hash (inl known) met).1) did;
}

-- the role of a pass
role-of : (r : Role) → is_pass_role r ≡ true → r ≡ Pass
role-of First on = cc
role-of Pass on = refl
role-of Note on = cc
role-of Spent on = cc

-- a test counts for one where it holds
count-one : (b : Bool) (n : ℕ) → (b ≡ true → 1 ≤ n) → cond b 1 0 ≤ n
count-one true n some_held = some_held refl
count-one false n some_held = omega arith

-- each pass counts for one at least
count-passes : (l : List Sets)
    → ((seat : ℕ) (v : Sets) → get_elem? l seat ≡ some v → v.role ≡ Pass → 1 ≤ v.passes)
    → count_by is_pass l ≤ sum_by passes_of l
count-passes [] each = omega arith
count-passes (v ∷ vs) each =
    let later : count_by is_pass vs ≤ sum_by passes_of vs =
    count-passes vs (λ seat w at. each (suc seat) w at) in
    let now : cond (is_pass v) 1 0 ≤ v.passes =
    count-one (is_pass v) v.passes (λ on. each 0 v refl (role-of v.role on)) in
    omega (
      arith,
      now,
      later,
      sum_by-cons passes_of v vs,
      sum_by-cons (λ (u : Sets). cond (is_pass u) 1 0) v vs,
    )

-- the law of few passes
pub few_law : FewLaw
few_law words passes s rule =
    let counted = count-passes s.views rule.one_each in omega (arith, counted, rule.few)

-- where a test holds a position is set, and else it is as it was
chosen : (was test : Bool) → (was || test) ≡ unwrap_or (if test then Some true else None) was
chosen true true = refl
chosen false true = refl
chosen true false = refl
chosen false false = refl

-- the law of the steps
pub or_law : OrLaw
or_law words i mask p within =
    content-with_bits words i mask p within
    ∙ chosen (content words p) (eqb (p / 64) i && bit_is_on mask p)
