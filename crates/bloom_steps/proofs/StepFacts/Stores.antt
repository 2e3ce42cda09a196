-- What a step finds and does in memory, and what is near that and doesn't hold.
use Rattle.std.proofs.Common.{◌≡◌, ◌∷◌, [], List, ℕ, None, Some, true, refl, arith}
use Rattle.bloom_steps.proofs.Common.{content, And, Load, Or, Other, Zero, Union, Memory, Moves, Makes, MemoryLaw, Linked, Drives, Taken, word_index}
use Rattle.bloom_steps.specs.declared.steps.vocabulary.Step.TheVariants.{Take}
use Rattle.bloom_steps.proofs.StepFacts.Pairs.{read_write, read_write-script}
use Rattle.bloom_steps.proofs.StepLemmas.Whole.{silent}

-- one word, and one of the other filter
abbrev pub memory : ℕ → Memory
memory word = record { words = word ∷ []; other = 5 ∷ [] }

-- an or finds the word as it was, and not as it leaves it, and keeps the other filter's
moves : Moves (memory 9) (Or 0 3) 9 (memory 11)
    × (Moves (memory 9) (Or 0 3) 11 (memory 11) → ⊥)
    × (Moves (memory 9) (Or 0 3) 9 (record (memory 11) { other = 6 ∷ [] }) → ⊥)
moves = (
  record { within = omega arith; finds = refl; writes = refl; kept = refl },
  (λ m. omega (arith, m.finds)),
  (λ m. let kept = m.kept in cc),
)

-- a union of one word
abbrev union : List Taken
union = read_write 5

-- the steps of a union, one after the other
union-linked : Linked Moves (memory 0) union (memory 5)
union-linked = (
  memory 0,
  record { within = omega arith; finds = refl; writes = refl; kept = refl },
  (
    memory 5,
    record { within = omega arith; finds = refl; writes = refl; kept = refl },
    refl,
  ),
)

-- by the law a union leaves what it read, and no position of it is clear
makes : (MemoryLaw → Makes (memory 0) union (memory 5))
    × (Makes (memory 0) union (memory 4) → ⊥)
unfolding content
makes = (
  (λ law. law (memory 0) (memory 5) union union-linked),
  (λ made. let off = made.set 0 in cc),
)

-- the steps of a union are a drive of it, which answers nothing
drives : Drives Moves 1 2 Union (memory 0) (memory 5) None
    × (Drives Moves 1 2 Union (memory 0) (memory 5) (Some true) → ⊥)
drives = (
  record {
    taken = union;
    script = read_write-script 2 5;
    linked = union-linked;
    answers = refl;
  },
  (λ d.
      let none = silent d.taken d.script.last in
      let says = d.answers in
      cc),
)

-- each kind of step has the word that it names
indices : (word_index (Load 1) ≡ 1) × (word_index (Or 2 5) ≡ 2) × (word_index (And 3 5) ≡ 3)
    × (word_index (Zero 4) ≡ 4) × (word_index (Other 5) ≡ 5) × (word_index (Take 6) ≡ 6)
indices = (refl, refl, refl, refl, refl, refl)
