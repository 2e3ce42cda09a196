-- What taking a line that waits whole promises: a case that holds, and the nearest that doesn't.
use Rattle.std.proofs.Common.{◌≡◌, [], ◌∷◌, length, refl, ap, arith}
use Rattle.lines.specs.Reading.{CutsLineBy}

-- the line is taken with its end, which doesn't stay behind it
cuts : CutsLineBy 10 1 (97 ∷ 10 ∷ 98 ∷ []) (98 ∷ []) (97 ∷ []) 1
    × (CutsLineBy 10 1 (97 ∷ 10 ∷ 98 ∷ []) (10 ∷ 98 ∷ []) (97 ∷ []) 1 → ⊥)
cuts = (
  record {
    ends = record { within = omega arith; ended = refl; inside = refl };
    short = omega arith;
    is_line = refl;
    is_rest = refl;
  },
  λ is. let count : 2 ≡ 1 = ap length is.is_rest in omega (arith, count),
)
