-- What a run writes and counts: of each definition cases that hold, and the nearest that don't.
use Rattle.std.proofs.Common.{◌≡◌, ℕ, ◌-◌, ◌^◌, Bool, true, false, List, [], ◌∷◌, refl, arith}
use Rattle.duplicates_engine.proofs.Common.{codes, New, HeldBack, Nothing, Counts, text_of, limit_of}
use Rattle.duplicates_engine.proofs.Cases.{asked, lines, long, passing, replies, total}

-- the new lines are written with their ends, or those that were held back, or none. A longer line
-- is written with the new ones; and one of as many bytes as a line may have is no longer one
text : (text_of 10 (asked 9 New) lines replies ≡ codes "a\nb\n")
    × (text_of 0 (asked 9 HeldBack) lines replies ≡ 97 ∷ 0 ∷ [])
    × (text_of 10 (asked 9 Nothing) lines replies ≡ [])
    × (text_of 10 (passing New) long (false ∷ true ∷ true ∷ []) ≡ codes "a\nbb\n")
    × (text_of 10 (passing HeldBack) long (false ∷ true ∷ true ∷ []) ≡ codes "a\n")
    × (text_of 10 (passing New) (codes "b" ∷ []) (true ∷ []) ≡ [])
text = (refl, refl, refl, refl, refl, refl)

-- where longer lines are passed on any line is read, and else those that aren't longer
limit : (limit_of (passing New) ≡ 2 ^ 64 - 1) × (limit_of (asked 9 New) ≡ 9)
limit = (refl, refl)

-- three lines were read, of which two were held back and one has more than a byte, and none more
-- than two; and each count stays at 2^64 - 1
counts : Counts 1 long (false ∷ true ∷ true ∷ []) (total 3 2 1)
    × (Counts 1 long (false ∷ true ∷ true ∷ []) (total 2 2 1) → ⊥)
    × (Counts 1 long (false ∷ true ∷ true ∷ []) (total 3 1 1) → ⊥)
    × (Counts 2 long (false ∷ true ∷ true ∷ []) (total 3 2 1) → ⊥)
    × ((longest : ℕ) (lines : List (List ℕ)) (replies : List Bool)
    → (Counts longest lines replies (total (2 ^ 64) 0 0) → ⊥)
    × (Counts longest lines replies (total 0 (2 ^ 64) 0) → ⊥)
    × (Counts longest lines replies (total 0 0 (2 ^ 64)) → ⊥))
counts = (
  record { read = refl; held = refl; longer = refl },
  λ is. omega (arith, is.read),
  λ is. omega (arith, is.held),
  λ is. omega (arith, is.longer),
  λ longest lines replies. (
    λ is. omega (arith, is.read),
    λ is. omega (arith, is.held),
    λ is. omega (arith, is.longer),
  ),
)
