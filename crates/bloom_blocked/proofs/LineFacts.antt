-- Lines, and the positions of hashes there, at values from outside: for each definition that public
-- clauses cite a case that holds and cases as near as can be that don't. A program in Python that
-- knows the description alone made the numbers: with four hashes the greatest hash has the
-- positions 1373, 1522, 1199 and 1082 in three lines, and hash 1 has 162, 13, 336 and 453 in one.
use Rattle.std.proofs.Common.{◌≡◌, ◌/◌, ◌<◌, ℕ, Bool, true, false, [], ◌∷◌, slice_index, refl, sym, arith, lit<, lit≤}
use Rattle.bloom_blocked.proofs.Common.{both_ways, chain, content, IsPart, positions, are_in, is_new, bits-next, no-bit}
use Rattle.bloom_blocked.specs.Blocked.{IsBlockedShape}
use Rattle.bloom_blocked.specs.Lines.{line_of, inner_of, in_line, line_positions, are_in_line, IsLinePosition, LinePositionsLaw, LineSubsetLaw, LineRangeLaw, OneLineLaw}
use Rattle.bloom_blocked.specs.Many.{positions_in_lines, TellsFoundInLines, TellsNewInLines}
use Rattle.bloom_blocked.proofs.BitLemmas.{word-where}
use Rattle.bloom_blocked.proofs.Cases.{greatest, with_one}

-- three lines share the hashes by thirds
line_of-cases : (line_of 3 6148914691236517205 ≡ 0) × (line_of 3 6148914691236517206 ≡ 1)
    × (line_of 3 greatest ≡ 2)
line_of-cases = (refl, refl, refl)

-- the inner hash is a product modulo 2^64
inner_of-cases : (inner_of 1 ≡ 0x517c_c1b7_2722_0a95)
    × (inner_of greatest ≡ 0xae83_3e48_d8dd_f56b)
inner_of-cases = (refl, refl)

-- position 3 of line 1 is position 515
in_line-case : (A : ℕ → Bool) → in_line A 1 3 ≡ A 515
in_line-case A = refl

-- of three positions the third is one and the fourth isn't, nor is the same place of another line,
-- nor one of the hash itself in this line
line_positions-cases : (line_positions 3 3 greatest 1199 ≡ true)
    × (line_positions 3 3 greatest 1082 ≡ false) × (line_positions 3 4 greatest 1082 ≡ true)
    × (line_positions 3 3 greatest 687 ≡ false) × (line_positions 3 3 greatest 1535 ≡ false)
unfolding positions chain
line_positions-cases = (refl, refl, refl, refl, refl)

-- the first two positions of hash 1 are in its two words, and not without one of them
are_in_line-cases : (are_in_line 1 2 1 (content with_one.words) ≡ true)
    × (are_in_line 1 2 1 (content (8192 ∷ [])) ≡ false)
    × (are_in_line 1 2 1 (content (0 ∷ 0 ∷ 17179869184 ∷ [])) ≡ false)
unfolding are_in content chain
are_in_line-cases = (refl, refl, refl)

-- with three hashes the greatest hash has its third position at 1199 of three lines
from_line_positions : LinePositionsLaw → (line_positions 3 3 greatest 1199 ≡ true)
    × IsLinePosition 3 3 greatest 1199
unfolding positions chain
from_line_positions law = (
  (law 3 3 greatest 1199).1 (record { index = 2; below = lit< tt; here = refl }),
  (law 3 3 greatest 1199).0 refl,
)

-- the words with both positions of hash 1 have each of them, and words without the first don't
from_line_subset : LineSubsetLaw → (content with_one.words 162 ≡ true)
    × (IsPart (line_positions 1 2 1) (content (8192 ∷ [])) → ⊥)
unfolding content positions are_in chain
from_line_subset law = (
  (law 1 2 1 (content with_one.words)).0 refl 162 refl,
  λ part. let wrong : false ≡ true = (law 1 2 1 (content (8192 ∷ []))).1 part in cc,
)

-- the greatest hash lies within a single line too
from_line_range : LineRangeLaw → (p : ℕ) → line_positions 1 2 greatest p ≡ true → p < 512
from_line_range law p is = law 1 2 greatest p (lit< tt) (lit< tt) is

-- each position of the greatest hash lies in the third line
from_one_line : OneLineLaw → (p : ℕ) → line_positions 3 3 greatest p ≡ true → p / 512 ≡ 2
unfolding positions chain
from_one_line law p is = law 3 3 greatest p 1199 is refl

-- from one line and one hash to 2^58 - 8 words and 2^32 - 1 hashes, and no part of a line
is_blocked_shape-cases : IsBlockedShape 8 1 × IsBlockedShape 288230376151711736 4294967295
    × (IsBlockedShape 0 1 → ⊥) × (IsBlockedShape 12 1 → ⊥)
    × (IsBlockedShape 288230376151711744 1 → ⊥)
    × (IsBlockedShape 8 0 → ⊥) × (IsBlockedShape 8 4294967296 → ⊥)
is_blocked_shape-cases = (
  record {
    some_words = lit≤ tt;
    few_words = lit< tt;
    whole_lines = refl;
    some_hashes = lit≤ tt;
    few_hashes = lit< tt;
  },
  record {
    some_words = lit≤ tt;
    few_words = lit< tt;
    whole_lines = refl;
    some_hashes = lit≤ tt;
    few_hashes = lit< tt;
  },
  λ shape. omega (arith, shape.some_words),
  λ shape. omega (arith, shape.whole_lines),
  λ shape. omega (arith, shape.few_words),
  λ shape. omega (arith, shape.some_hashes),
  λ shape. omega (arith, shape.few_hashes),
)

-- the positions of two hashes together
positions_in_lines-cases : (positions_in_lines 1 2 (0 ∷ 1 ∷ []) 13 ≡ true)
    × (positions_in_lines 1 2 (0 ∷ 1 ∷ []) 0 ≡ true)
    × (positions_in_lines 1 2 (0 ∷ 1 ∷ []) 14 ≡ false)
unfolding positions chain
positions_in_lines-cases = (refl, refl, refl)

-- the bit of a hash that is contained is set, and neither that of one that isn't, nor one past the
-- hashes
tells_found_in_lines-cases : TellsFoundInLines 1 1 (content (1 ∷ [])) (0 ∷ []) (1 ∷ [])
    × (TellsFoundInLines 1 1 (content (1 ∷ [])) (0 ∷ []) (0 ∷ []) → ⊥)
    × (TellsFoundInLines 1 1 (content (2 ∷ [])) (0 ∷ []) (1 ∷ []) → ⊥)
    × (TellsFoundInLines 1 1 (content (1 ∷ [])) (0 ∷ []) (3 ∷ []) → ⊥)
unfolding content are_in chain
tells_found_in_lines-cases = (
  bits-next found (content (0 ∷ [])) (content (1 ∷ [])) 0 (no-bit found)
      (word-where 0 0 true 1 (lit< tt) refl),
  λ told. both_ways false refl (told 0),
  λ told. both_ways false refl (sym (told 0)),
  λ told. both_ways false refl (sym (told 1)),
)
  where
    found : ℕ → Bool
    found i = are_in_line 1 1 (slice_index (0 ∷ []) i) (content (1 ∷ []))

-- of a hash that comes twice the first is new and the second isn't
tells_new_in_lines-cases : TellsNewInLines 1 1 (content (0 ∷ [])) (0 ∷ 0 ∷ []) (1 ∷ [])
    × (TellsNewInLines 1 1 (content (0 ∷ [])) (0 ∷ 0 ∷ []) (0 ∷ []) → ⊥)
    × (TellsNewInLines 1 1 (content (0 ∷ [])) (0 ∷ 0 ∷ []) (3 ∷ []) → ⊥)
unfolding content are_in positions chain
tells_new_in_lines-cases = (
  bits-next new (content (1 ∷ [])) (content (1 ∷ [])) 1
      (bits-next new (content (0 ∷ [])) (content (1 ∷ [])) 0 (no-bit new)
      (word-where 0 0 true 1 (lit< tt) refl))
      (word-where 1 1 false 0 (lit< tt) refl),
  λ told. both_ways false refl (told 0),
  λ told. both_ways false refl (sym (told 1)),
)
  where
    new : ℕ → Bool
    new = is_new (line_positions 1 1) (are_in_line 1 1) (content (0 ∷ [])) (0 ∷ 0 ∷ [])
