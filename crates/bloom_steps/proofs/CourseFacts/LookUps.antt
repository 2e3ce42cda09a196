-- What the theorems on look-ups say of the worked courses.
use Rattle.std.proofs.Common.{◌≡◌, ◌∙◌, ap, true, false, Bool, refl, arith, sym, subst, zero, suc, ℕ, ◌≤◌}
use Rattle.bloom_steps.proofs.Common.{both_ways, chain, content, IsPosition, are_in, place, Load, Or, Insert, Contains, Answer, ContainsTell, FindsInserted, IsFinished, NoneTurnedOff, moment, turns_off}
use Rattle.bloom_steps.proofs.CourseFacts.Courses.{insert_then_contains, insert_then_contains_answering}
use Rattle.bloom_steps.proofs.CourseFacts.Finished.{finished}
use Rattle.bloom_steps.proofs.CourseFacts.Lawful.{lawful-insert_then_contains}
use Rattle.bloom_steps.proofs.RunLemmas.PlainCalls.{tells}

-- position 0 is the only one of hash 0
only : (p : ℕ) → IsPosition 64 1 0 p → p ≡ 0
unfolding chain
only p x = let zeroth : x.index ≡ 0 = omega (arith, x.below) in
    sym x.here ∙ ap (place 64 0) zeroth

-- the insert is finished, whatever the look-up answers
finished-insert : (answer : Bool)
    → IsFinished (insert_then_contains_answering answer) 0 (Insert 0) 0 1 (Answer false)
finished-insert answer =
    finished (insert_then_contains_answering answer) 0 (Insert 0) 0 1 (Answer false) refl
    (omega arith) (Or 0 1) 4 refl (λ e. cc) refl

-- the look-up is finished, whatever it answers
finished-look_up : (answer : Bool)
    → IsFinished (insert_then_contains_answering answer) 1 (Contains 0) 2 3 (Answer answer)
finished-look_up answer =
    finished (insert_then_contains_answering answer) 1 (Contains 0) 2 3 (Answer answer) refl
    (omega arith) (Load 0) 5 refl (λ e. cc) refl

-- at the last load of the look-up after an insert the hash is contained
contained : are_in 64 1 0 (moment (insert_then_contains_answering false) 3) ≡ true
unfolding content chain are_in
contained = refl

-- a look-up after an insert of its hash is right where it answers true, and not with false
contains_tell : ContainsTell (IsPosition 64 1) (are_in 64 1) insert_then_contains
    × (ContainsTell (IsPosition 64 1) (are_in 64 1) (insert_then_contains_answering false) → ⊥)
contains_tell = (
  (tells 1 insert_then_contains lawful-insert_then_contains (omega arith) (omega arith)).contains,
  (λ tell.
      let right = tell 1 0 2 3 false (finished-look_up false) in
      both_ways (are_in 64 1 0 (moment (insert_then_contains_answering false) 3)) (right.off refl)
      contained),
)

-- nothing is cleared where a look-up follows an insert
kept : NoneTurnedOff (IsPosition 64 1 0) (insert_then_contains_answering false) 0 3
unfolding content
kept m p a b x =
    subst (λ q. turns_off (insert_then_contains_answering false) m q ≡ false) (sym (only p x))
    (at m b)
  where
    at : (m : ℕ) → m ≤ 3 → turns_off (insert_then_contains_answering false) m 0 ≡ false
    at zero b = refl
    at (suc zero) b = refl
    at (suc (suc zero)) b = refl
    at (suc (suc (suc zero))) b = refl
    at (suc (suc (suc (suc m)))) b = absurd (omega (arith, b))

-- a finished insert is found, and not where the look-up after it answers false
finds_inserted : FindsInserted (IsPosition 64 1) insert_then_contains
    × (FindsInserted (IsPosition 64 1) (insert_then_contains_answering false) → ⊥)
finds_inserted = (
  (tells 1 insert_then_contains lawful-insert_then_contains (omega arith) (omega arith)).found,
  (λ finds.
      let answer =
      finds 0 0 0 1 (Answer false) (finished-insert false) 1 2 3 false (finished-look_up false)
      (omega arith) kept in
      cc),
)
