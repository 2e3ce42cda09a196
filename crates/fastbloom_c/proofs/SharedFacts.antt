-- What calls on words that threads share tell, and on lines of them: cases that hold, and the
-- nearest that don't.
use Rattle.std.proofs.Common.{◌≡◌, ◌^◌, ◌*◌, true, false, Some, [], ◌∷◌, refl, sym, ap, arith, lit<, lit≤}
use Rattle.std.proofs.lemmas.Bool.{both_ways}
use denote.RawPtr.{block_ptr}
use Rattle.bloom_parts.specs.Content.{content}
use Rattle.bloom_parts.specs.Made.{SharedWords}
use Rattle.bloom_parts.proofs.PublishedLemmas.{content-zeros}
use Rattle.bloom_steps.specs.declared.steps.vocabulary.Call.TheVariants.{Contains, Insert}
use Rattle.bloom_steps.specs.LiveSteps.{MakesCallInTurn, MakesCallOn}
use Rattle.bloom_blocked.specs.LineSteps.{LooksInLine, SetsInTurn}
use Rattle.fastbloom_c.specs.BlockedShared.{TellsLooksInLines, TellsSetsInLines}
use Rattle.fastbloom_c.specs.Passed.{MakeFilter, MakeLines, vector_of}
use Rattle.fastbloom_c.specs.Shared.{TellsInserts, TellsLooks}

-- from one word to 2^58 - 1 make a filter
filter-words : MakeFilter 1
    × MakeFilter 288230376151711743
    × (MakeFilter 0 → ⊥)
    × (MakeFilter (2 ^ 58) → ⊥)
filter-words = (
  (lit≤ tt, lit< tt),
  (lit≤ tt, lit< tt),
  λ some. omega (arith, some.0),
  λ few. omega (arith, few.1),
)

-- from eight words to 2^58 - 1 make a filter in lines
lines-words : MakeLines 8
    × MakeLines 288230376151711743
    × (MakeLines 7 → ⊥)
    × (MakeLines (2 ^ 58) → ⊥)
lines-words = (
  (lit≤ tt, lit< tt),
  (lit≤ tt, lit< tt),
  λ some. omega (arith, some.0),
  λ few. omega (arith, few.1),
)

-- words at one place are one vector, and those at another place, or in another block, another one
vector-place : (vector_of (block_ptr 3 8) 5 ≡ record { name = 2 ^ 3 * 3 ^ 8; count = 5 })
    × (vector_of (block_ptr 3 8) 5 ≡ vector_of (block_ptr 3 16) 5 → ⊥)
    × (vector_of (block_ptr 3 8) 5 ≡ vector_of (block_ptr 4 8) 5 → ⊥)
vector-place = (
  refl,
  λ same. omega (arith, ap (λ (v : SharedWords). v.name) same),
  λ same. omega (arith, ap (λ (v : SharedWords). v.name) same),
)

module _ (v : SharedWords) where
  -- each bit tells what the look-up of its hash returned, and a bit with no hash is clear
  looks-tell : TellsLooks v 1 [] (0 ∷ [])
      × (TellsLooks v 1 (5 ∷ 6 ∷ []) (2 ∷ [])
      → MakesCallOn v v 1 (Contains 5) (Some false)
      × MakesCallOn v v 1 (Contains 6) (Some true))
      × (TellsLooks v 1 (5 ∷ []) (2 ∷ []) → ⊥)
  unfolding content
  looks-tell = (
    record { each = λ i within. absurd (omega (arith, within)); rest = λ i _. content-zeros 1 i },
    λ told. (told.each 0 (omega arith), told.each 1 (omega arith)),
    λ told. both_ways false refl (sym (told.rest 1 (omega arith))),
  )

  -- so it is in lines
  looks_in_lines-tell : TellsLooksInLines v 1 (5 ∷ 6 ∷ []) (2 ∷ [])
      → LooksInLine v 1 5 false × LooksInLine v 1 6 true
  unfolding content
  looks_in_lines-tell told = (told.each 0 (omega arith), told.each 1 (omega arith))

  -- a bit that is set tells that the insert set a bit, and one that is clear that it set none; the
  -- second insert began at the turn to which the first led; a bit with no hash is clear
  inserts-tell : TellsInserts v 1 [] (0 ∷ [])
      × ((told : TellsInserts v 1 (5 ∷ 6 ∷ []) (1 ∷ []))
      → MakesCallInTurn v v 1 (Insert 5) (Some false) (told.turns 0) (told.turns 1)
      × MakesCallInTurn v v 1 (Insert 6) (Some true) (told.turns 1) (told.turns 2))
      × (TellsInserts v 1 [] (1 ∷ []) → ⊥)
  unfolding content
  inserts-tell = (
    record {
      turns = λ i. i;
      each = λ i within. absurd (omega (arith, within));
      rest = λ i _. content-zeros 1 i;
    },
    λ told. (told.each 0 (omega arith), told.each 1 (omega arith)),
    λ told. both_ways false refl (sym (told.rest 0 (omega arith))),
  )

  -- so it is in lines
  inserts_in_lines-tell : (told : TellsSetsInLines v 1 (5 ∷ 6 ∷ []) (1 ∷ []))
      → SetsInTurn v 1 5 false (told.turns 0) (told.turns 1)
      × SetsInTurn v 1 6 true (told.turns 1) (told.turns 2)
  unfolding content
  inserts_in_lines-tell told = (told.each 0 (omega arith), told.each 1 (omega arith))
