-- Worked courses, of which the facts beside speak. Hash 0 has position 0 alone. Hash 1 has the
-- positions 0 and 20 of 64 bits, and 0, 40 and 64 of 128.
use Rattle.std.proofs.Common.{◌≡◌, refl, ◌∷◌, [], Bool, true, false}
use Rattle.bloom_steps.proofs.Common.{Load, Or, Other, Insert, Contains, Union, Running, Done, Answer, Began, Did, Course, bits_of}

-- two inserts of one fresh hash, of which the first gives this answer
abbrev pub twins_answering : Bool → Course
twins_answering answer = record {
  start = 0 ∷ [];
  records =
      Began 0 (Insert 1) ∷ Began 1 (Insert 1) ∷ Did 0 (Or 0 1) 0 Running
      ∷ Did 1 (Or 0 1) 1 Running ∷ Did 1 (Or 0 1048576) 1 (Answer false)
      ∷ Did 0 (Or 0 1048576) 1048577 (Answer answer) ∷ [];
  words = 1048577 ∷ [];
}

-- two inserts of one fresh hash, with two hashes: each sets a position, and both answer false
abbrev pub twins : Course
twins = twins_answering false

-- a union, and then an insert with this answer: one call at a time, with one hash
abbrev pub in_turn_answering : Bool → Course
in_turn_answering answer = record {
  start = 0 ∷ [];
  records =
      Began 0 Union ∷ Did 0 (Other 0) 5 Running ∷ Did 0 (Or 0 5) 0 Done ∷ Began 1 (Insert 0)
      ∷ Did 1 (Or 0 1) 5 (Answer answer) ∷ [];
  words = 5 ∷ [];
}

-- a union, and then an insert that answers true, since it found its bit set
abbrev pub in_turn : Course
in_turn = in_turn_answering true

-- an insert, then a look-up of its hash with this answer, and a union that isn't finished
abbrev pub insert_then_contains_answering : Bool → Course
insert_then_contains_answering answer = record {
  start = 4 ∷ [];
  records =
      Began 0 (Insert 0) ∷ Did 0 (Or 0 1) 4 (Answer false) ∷ Began 1 (Contains 0)
      ∷ Did 1 (Load 0) 5 (Answer answer) ∷ Began 0 Union ∷ Did 0 (Other 0) 9 Running ∷ [];
  words = 5 ∷ [];
}

-- an insert, then a look-up of its hash, and a union that isn't finished, with one hash
abbrev pub insert_then_contains : Course
insert_then_contains = insert_then_contains_answering true

-- a course of one word has 64 bits
bits : bits_of twins ≡ 64
bits = refl
