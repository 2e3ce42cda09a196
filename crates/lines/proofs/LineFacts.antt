-- Lines at values from outside, and where the first one ends: cases that hold, and the nearest that
-- don't. A wrong definition fails here.
use Rattle.std.proofs.Common.{◌≡◌, true, false, [], ◌∷◌, refl, arith}
use Rattle.std.specs.Prelude.{codes}
use Rattle.lines.specs.Lines.{lines_by, lines_of, has_no_end_by}
use Rattle.lines.specs.Reading.{HasEndAtBy}

-- two ends are two lines, and behind the last end none begins; a last line may lack its end. A
-- carriage return is a byte of a line, and byte 10 is one where byte 0 ends lines
lines : (lines_of (codes "i 1\n\nx") ≡ codes "i 1" ∷ [] ∷ codes "x" ∷ [])
    × (lines_of (codes "x\n\n") ≡ codes "x" ∷ [] ∷ [])
    × (lines_of (97 ∷ 13 ∷ 10 ∷ []) ≡ (97 ∷ 13 ∷ []) ∷ [])
    × (lines_by 0 (97 ∷ 10 ∷ 0 ∷ 99 ∷ []) ≡ (97 ∷ 10 ∷ []) ∷ (99 ∷ []) ∷ [])
unfolding lines_by
lines = (refl, refl, refl, refl)

-- the bytes beside an end are none
no_end : (has_no_end_by 10 (9 ∷ 11 ∷ []) ≡ true)
    × (has_no_end_by 10 (9 ∷ 10 ∷ []) ≡ false)
    × (has_no_end_by 0 (10 ∷ 255 ∷ []) ≡ true)
no_end = (refl, refl, refl)

-- the first line of "ab\nc\n" has two bytes: not one, nor all up to the second end; and an end is a
-- byte, not what lies behind the last
has_end : HasEndAtBy 10 (codes "ab\nc\n") 2
    × (HasEndAtBy 10 (codes "ab\nc\n") 1 → ⊥)
    × (HasEndAtBy 10 (codes "ab\nc\n") 4 → ⊥)
    × (HasEndAtBy 0 (codes "ab") 2 → ⊥)
has_end = (
  record { within = omega arith; ended = refl; inside = refl },
  λ is. omega (arith, is.ended),
  λ is. cc (is.inside),
  λ is. omega (arith, is.within),
)
