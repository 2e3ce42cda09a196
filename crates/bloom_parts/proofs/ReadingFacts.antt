-- Single words of a vector that threads share, and readings of it: cases that hold and cases as
-- near as can be that don't. No fact unfolds that a step was made: only the step hands that out.
use Rattle.std.proofs.Common.{◌≡◌, ◌^◌, ℕ, Some, None, refl, arith, ap, lit<}
use Rattle.bloom_parts.specs.Made.{SharedWords, IsOnWord, FoundByLoad}
use Rattle.bloom_parts.specs.Reading.{Reading, ReadsNext}

-- a vector of two words, under any name
abbrev two : ℕ → SharedWords
two name = record { name = name; count = 2 }

-- a reading of the vector of two words that comes to this word next
abbrev at : ℕ → ℕ → Reading
at name i = record { vector = two name; next = i }

module _ (name found : ℕ) where
  -- the greatest word may be at the last index, none is past it, and a word has 64 bits
  is_on_word-cases : IsOnWord (two name) 1 0xffff_ffff_ffff_ffff
      × (IsOnWord (two name) 2 0 → ⊥)
      × (IsOnWord (two name) 1 (2 ^ 64) → ⊥)
  is_on_word-cases = (
    (omega arith, lit< tt),
    λ on. omega (arith, on.0),
    λ on. omega (arith, on.1),
  )

  -- a word that comes was found by a load of the next one; none is passed over, none comes after
  -- the last
  reads_next-word :
      (FoundByLoad (two name) 1 found → ReadsNext (at name 1) (Some found) (at name 2))
      × (ReadsNext (at name 0) (Some found) (at name 1) → FoundByLoad (two name) 0 found)
      × (ReadsNext (at name 0) (Some found) (at name 2) → ⊥)
      × (ReadsNext (at name 2) (Some found) (at name 3) → ⊥)
      × ((other : ℕ) → ReadsNext (at name 0) (Some found) (at other 1) → other ≡ name)
  reads_next-word = (
    λ made. (refl, (made, omega arith, refl)),
    λ reads. reads.1.0,
    λ reads. omega (arith, reads.1.2),
    λ reads. omega (arith, reads.1.1),
    λ other reads. ap (λ (vector : SharedWords). vector.name) reads.0,
  )

  -- no word comes after the last alone, and the reading stays where it is
  reads_next-none : ReadsNext (at name 2) None (at name 2)
      × (ReadsNext (at name 1) None (at name 1) → ⊥)
      × (ReadsNext (at name 2) None (at name 0) → ⊥)
  reads_next-none = (
    (refl, (omega arith, refl)),
    λ reads. omega (arith, reads.1.0),
    λ reads. omega (arith, reads.1.1),
  )
