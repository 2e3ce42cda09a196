-- What came of moving waiting bytes to a line (`lines` Pieces): cases that hold, and near ones that
-- don't. Byte 10 ends a line.
use Rattle.std.proofs.Common.{◌≡◌, ◌∙◌, ◌+◌, ℕ, true, false, List, [], ◌∷◌, ◌++◌, length, length-append, get_or, refl, ap, arith}
use Rattle.lines.specs.declared.piece.Piece.TheVariants.{All, Ended, TooLong}
use Rattle.lines.specs.Pieces.{MovesPiece}

-- a line with its end is taken, and what stands behind waits still
ended : MovesPiece 10 3 (97 ∷ 10 ∷ 98 ∷ []) (98 ∷ []) (96 ∷ []) (96 ∷ 97 ∷ []) Ended
ended = record {
  part = 97 ∷ [];
  cut = refl;
  grows = record { joined = refl; inside = refl; short = omega arith };
}

-- the end doesn't wait
ended-kept : MovesPiece 10 3 (97 ∷ 10 ∷ []) (10 ∷ []) [] (97 ∷ []) Ended → ⊥
ended-kept is = by is.part is.cut
  where
    by : (part : List ℕ) → 97 ∷ 10 ∷ [] ≡ part ++ 10 ∷ (10 ∷ []) → ⊥
    by [] cut = let byte : 97 ≡ 10 = ap (λ l. get_or l 0 0) cut in omega (arith, byte)
    by (byte ∷ part) cut = omega (arith, ap length cut, length-append part (10 ∷ (10 ∷ [])))

-- it is no byte of the line
ended-inside : MovesPiece 10 3 (97 ∷ 10 ∷ []) [] [] (97 ∷ 10 ∷ []) Ended → ⊥
ended-inside is =
    let longer : 2 ≡ length is.part + 1 = ap length is.cut ∙ length-append is.part (10 ∷ []) in
    let joined : 2 ≡ length is.part = ap length is.grows.joined in
    omega (arith, longer, joined)

-- no line is longer than a line may be
ended-long : MovesPiece 10 1 (97 ∷ 98 ∷ 10 ∷ []) [] [] (97 ∷ 98 ∷ []) Ended → ⊥
ended-long is = omega (arith, is.grows.short)

-- where no end waits, all bytes are moved
all : MovesPiece 10 3 (97 ∷ 98 ∷ []) [] (96 ∷ []) (96 ∷ 97 ∷ 98 ∷ []) All
all = record {
  none_left = refl;
  grows = record { joined = refl; inside = refl; short = omega arith };
}

all-left : MovesPiece 10 3 (97 ∷ []) (98 ∷ []) [] (97 ∷ []) All → ⊥
all-left is = cc is.none_left

all-ended : MovesPiece 10 3 (97 ∷ 10 ∷ []) [] [] (97 ∷ 10 ∷ []) All → ⊥
all-ended is = let wrong : false ≡ true = is.grows.inside in cc

-- bytes that would make a line too long are taken, and not moved
long : MovesPiece 10 2 (97 ∷ 98 ∷ []) [] (96 ∷ []) (96 ∷ []) TooLong
long = record { part = 97 ∷ 98 ∷ []; cut = refl; inside = refl; long = omega arith }

-- where they fit they are moved
long-fits : MovesPiece 10 3 (97 ∷ 98 ∷ []) [] (96 ∷ []) (96 ∷ []) TooLong → ⊥
long-fits is =
    let two : 2 ≡ length is.part + 0 = ap length is.cut ∙ length-append is.part [] in
    omega (arith, two, is.long)
