-- What machines ask and answer, how their calls stand, and how many steps are left: value by value.
-- Each machine here is on two words with three hashes.
use Rattle.std.proofs.Common.{◌≡◌, ◌<◌, ℕ, Bool, None, Some, true, false, refl, arith, lit<}
use Rattle.bloom_steps.proofs.Common.{both_ways, Or, Call, Insert, Contains, Clear, Union, Machine, most_steps, plan_of, answers, asks, left}
use Rattle.bloom_steps.specs.declared.steps.vocabulary.Call.TheVariants.{Take}

-- a machine that runs a call, at place 64, and read the word 5 last
abbrev running : (call : Call) (turn : ℕ) → turn < most_steps 2 3 (plan_of call) → Machine
running call turn below = record {
  call = call;
  num_words = 2;
  num_hashes = 3;
  turn = turn;
  chain = record { newest = 1; added = 1 };
  place = 64;
  other = 5;
  all_on = true;
  ended = false;
  some_words = omega arith;
  few_words = lit< tt;
  some_hashes = omega arith;
  within = omega arith;
  room = λ e. below;
}

-- a machine whose call has ended
abbrev over : Call → Bool → Machine
over call all_on = record {
  call = call;
  num_words = 2;
  num_hashes = 3;
  turn = 2;
  chain = record { newest = 1; added = 1 };
  place = 64;
  other = 5;
  all_on = all_on;
  ended = true;
  some_words = omega arith;
  few_words = lit< tt;
  some_hashes = omega arith;
  within = omega arith;
  room = λ e. absurd (both_ways true e refl);
}

-- an insert that runs asks for the bit of its place, and one that has ended for nothing
asked : (asks (running (Insert 1) 1 (omega arith)) ≡ Some (Or 1 1))
    × (asks (over (Insert 1) true) ≡ None)
asked = (refl, refl)

-- an insert that has ended answers whether its bits were set; one that runs, and a clear, nothing
answered : (answers (running (Insert 1) 1 (omega arith)) ≡ None)
    × (answers (over (Insert 1) true) ≡ Some true)
    × (answers (over (Insert 1) false) ≡ Some false) × (answers (over Clear true) ≡ None)
answered = (refl, refl, refl, refl)

-- the steps left are the most that the plan makes less those made, and none after the end
lefts : (left (running (Insert 1) 1 (omega arith)) ≡ 2)
    × (left (running (Contains 1) 1 (omega arith)) ≡ 2)
    × (left (running Clear 1 (omega arith)) ≡ 1) × (left (running Union 1 (omega arith)) ≡ 3)
    × (left (running Take 0 (omega arith)) ≡ 2) × (left (over (Insert 1) true) ≡ 0)
lefts = (refl, refl, refl, refl, refl, refl)
