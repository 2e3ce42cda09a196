-- Plans and filters of the facts. At the rate 4 / 2 a filter for one item has one word and 44
-- hashes, since 64 times the logarithm of 2 is 44.4. With two hashes, hash 1 has the positions 0
-- and 20 among 64, so that the word 1048577 has it.
use Rattle.std.proofs.Common.{◌<◌, ◌*◌, ◌^◌, ◌≤◌, ℕ, false, ◌||◌, List, [], ◌∷◌, refl, ap, ◌∙◌, arith, lit<, lit≤}
use Rattle.bloom_growing.proofs.Common.{chain, content, positions, are_in, Rate, Setup, setup_of, Growing, IsNumber, Plain, Rotating}
use Rattle.bloom_parts.specs.Roots.{IsRoot}
use Rattle.bloom_parts.specs.Sizing.{IsHalvings}
use Rattle.bloom_plain.specs.Filter.{Filter, Inserts, anywhere}
use Rattle.bloom_plain.proofs.CaseLemmas.{content-case, content-past, positions-past}

-- the rate num / den
abbrev pub rate : (num den : ℕ) → 0 < num → 0 < den → Rate
rate num den some some' = record { num = num; den = den; num_above = some; den_above = some' }

-- the rate four, which is above one even when it was halved twice
abbrev pub four : Rate
four = rate 4 1 (lit< tt) (lit< tt)

-- its half
abbrev pub two : Rate
two = rate 4 2 (lit< tt) (lit< tt)

-- both take no halvings to one
pub halvings-none : (den : ℕ) → den * 2 ^ 32 ≤ 17179869184 → IsHalvings 4 den 0
halvings-none den few =
    let root : IsRoot 0 4294967296 = record { at_most = lit≤ tt; greatest = lit< tt } in
    record { enough = (4294967296, root, few); least = λ other is. omega arith }

-- a setup for one item at first, at the rate four, under the hasher 7
abbrev pub setup : Setup ℕ
setup = setup_of four 1 7

-- its empty first filter
abbrev pub for_one : Filter ℕ
for_one = record { words = 0 ∷ []; hashes = 44; hasher = 7 }

pub number-first : IsNumber Plain setup 0 for_one
number-first = record {
  rate = two;
  num = refl;
  den = refl;
  is_made = (64, (0, halvings-none 2 (lit≤ tt), refl), refl);
}

-- a filter of one word with two hashes
abbrev pub of_word : ℕ → Filter ℕ
of_word word = record { words = word ∷ []; hashes = 2; hasher = 7 }

-- filters that have hash 1, the positions 0 and 2, and nothing
abbrev pub with_one : Filter ℕ
with_one = of_word 1048577

abbrev pub with_five : Filter ℕ
with_five = of_word 5

abbrev pub with_none : Filter ℕ
with_none = of_word 0

-- an insert of hash 1 into a zero word sets its two positions
pub inserts-one : Inserts anywhere with_none 1 with_one false
unfolding content positions chain are_in
inserts-one = record {
  answers = refl;
  bits = content-case with_one.words (λ p. content with_none.words p || positions 64 2 1 p) refl
      (λ p past. ap (λ b. b || positions 64 2 1 p) (content-past with_none.words p past)
      ∙ positions-past 64 2 1 p (lit< tt) (lit< tt) past);
  shape = record { words = refl; hashes = refl };
  hasher = refl;
}

-- a filter that grows under this setup
abbrev pub grown : List (Filter ℕ) → Filter ℕ → ℕ → Growing ℕ
grown older newest taken =
    record { setup = setup; older = older; newest = newest; taken = taken }

-- a filter that rotates, for this many items at the rate four
abbrev pub rotating : (room : ℕ) → (older newer : Filter ℕ) → (taken turns : ℕ) → Rotating ℕ
rotating room older newer taken turns = record {
  setup = setup_of four room 7;
  older = older;
  newer = newer;
  taken = taken;
  turns = turns;
}
