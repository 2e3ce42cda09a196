-- The rate of false positives of a filter that grows: a look-up errs if one of its filters does.
-- How the replies of different filters to one look-up depend on each other isn't known, since they
-- share its hash. So the rate is bounded for every way. This project's own.
use Rattle.std.specs.Prelude.{◌≡◌, ℕ, ◌+◌, ◌*◌, ◌^◌, max, min, Bool, List, [], ◌∷◌, ◌++◌, map, ⊤}
use Rattle.std.specs.List.{list_any, sum_by}
use Rattle.bloom_parts.specs.declared.math.bracket.Bracket.{Bracket}
use Rattle.bloom_parts.specs.Brackets.{low_of, high_of, Holds, rate_low}
use Rattle.bloom_parts.specs.Content.{content}
use Rattle.bloom_parts.specs.Counts.{count_on}
use Rattle.bloom_parts.specs.Draws.{positives, false_positives}
use Rattle.bloom_parts.specs.FalsePositives.{false_pos_high, positives_low, positives_high}
use Rattle.bloom_plain.specs.Filter.{Filter, num_bits_of}
use Rattle.bloom_growing.specs.Growing.{Growing, room_at}
use Rattle.bloom_plain.specs.Ones.{ones_of}

-- the rate of one filter: the part of all look-ups for which it returns true, with two bounds of
-- that part in units of 2^-63
pub record Part : Type 0 where
  pub found : ℕ
  pub all : ℕ
  pub low : ℕ
  pub high : ℕ

-- the rate of a filter as it is
abbrev pub part_now : {S : Type 0} → Filter S → Part
part_now f = record {
  found = positives (num_bits_of f) f.hashes (content f.words);
  all = num_bits_of f ^ f.hashes;
  low = positives_low (num_bits_of f) f.hashes (ones_of f);
  high = positives_high (num_bits_of f) f.hashes (ones_of f);
}

-- the mean rate of a filter's shape after the draws of this many items, whatever bits they set
abbrev pub part_after : {S : Type 0} → Filter S → ℕ → Part
part_after f items = record {
  found = false_positives (num_bits_of f) (f.hashes * items) f.hashes;
  all = num_bits_of f ^ (f.hashes * items + f.hashes);
  low = rate_low (num_bits_of f) (f.hashes * items) f.hashes;
  high = false_pos_high (num_bits_of f) (f.hashes * items) f.hashes;
}

-- of n look-ups, whatever they are, each of these tests is true for as great a part as its rate
-- says
abbrev pub AnswerAt : ℕ → List (ℕ → Bool) → List Part → Type 0
AnswerAt n [] [] = ⊤
AnswerAt n [] (part ∷ parts) = ⊥
AnswerAt n (test ∷ tests) [] = ⊥
AnswerAt n (test ∷ tests) (part ∷ parts) =
    (count_on test n * part.all ≡ n * part.found) × AnswerAt n tests parts

-- whether one of these tests is true for a look-up
abbrev pub one_answers : List (ℕ → Bool) → ℕ → Bool
one_answers tests q = list_any (λ test. test q) tests

-- the greatest of numbers, 0 where there is none
abbrev pub greatest : List ℕ → ℕ
greatest [] = 0
greatest (x ∷ xs) = max x (greatest xs)

-- a bracket of the part of look-ups for which at least one of the filters with these rates returns
-- true, however their replies depend on each other
pub record BoundsAny (parts : List Part) (bracket : Bracket) : Type 0 where
  pub holds : (n : ℕ) (tests : List (ℕ → Bool)) → AnswerAt n tests parts →
      Holds bracket (count_on (one_answers tests) n) n
  pub low : low_of bracket ≡ greatest (map (λ part. part.low) parts)
  pub high : high_of bracket ≡ min (2 ^ 63) (sum_by (λ part. part.high) parts)

-- the rates of all filters as they are, the oldest first
abbrev pub parts_now : {S : Type 0} → Growing S → List Part
parts_now g = map part_now (g.older ++ g.newest ∷ [])

-- the mean rates of these filters, which stand behind i others, each after as many draws as its
-- room; new items set more bits
abbrev pub parts_full : {S : Type 0} → ℕ → ℕ → List (Filter S) → List Part
parts_full room i [] = []
parts_full room i (f ∷ later) = part_after f (room_at room i) ∷ parts_full room (i + 1) later

-- the mean rates of all filters, each after as many draws as it took new items, which set more
-- bits
abbrev pub parts_grown : {S : Type 0} → Growing S → List Part
parts_grown g = parts_full g.setup.room 0 g.older ++ part_after g.newest g.taken ∷ []
