-- The laws of seated filters, each used where its premises hold by the least. Hash 1 has the
-- positions 0 and 20 among 64 bits.
use Rattle.std.proofs.Common.{◌≡◌, ℕ, ◌≤◌, Bool, true, false, [], ◌∷◌, inl, inr, refl, lit<}
use Rattle.fastbloom.proofs.Common.{part-from, chain, content, are_in, with_bits, IsSeated, set_of, First, Note, Pass, Spent}
use Rattle.bloom_parts.specs.Deciders.{state}
use Rattle.bloom_steps.specs.Steps.{step_decides}
use Rattle.bloom_steps.specs.declared.steps.vocabulary.Step.TheVariants.{Or}
use Rattle.fastbloom.specs.Passes.{Finds, InsertsAs, IsSure, Knows, Meets, Sight, known_of, seated_positions, sure_of}
use Rattle.fastbloom.specs.SeatedLaws.{FewLaw, InsertedLaw, KnownLaw, MetLaw, OrLaw, StaysLaw, SureFoundLaw, is_pass, or_decides}
use Rattle.fastbloom.proofs.Cases.{pass, seated}
use Rattle.fastbloom.proofs.RuleFacts.{alone, at, view}

-- a pass that can be sure of hash 1: the filter began with position 0, and it knows 20
abbrev sure : Sight
sure = pass 1 (20 ∷ []) []

is_sure : IsSure seated sure 1
unfolding are_in set_of chain content
is_sure = part-from 64 2 1 (sure_of sure) refl

-- a pass that knows hash 1, and one that knows nothing
abbrev knowing : Sight
knowing = pass 0 (20 ∷ 0 ∷ []) []

is_known : Knows seated knowing 1
unfolding are_in set_of chain
is_known = part-from 64 2 1 (known_of knowing) refl

abbrev unaware : Sight
unaware = pass 0 [] []

module _ (new later other : Sight) (answer : Bool) where
  -- what a pass can be sure of is found, and an insert of it returns true
  sure_law : SureFoundLaw → Finds 64 2 1 sure new answer → answer ≡ true
  sure_law law did = law seated sure new 1 answer is_sure did

  inserted_law : InsertedLaw → InsertsAs (seated_positions seated 1) sure new answer
      → answer ≡ true
  inserted_law law did = law seated sure new 1 answer is_sure did

  -- what was inserted is known
  known_law : KnownLaw → InsertsAs (seated_positions seated 1) unaware new answer
      → Knows seated new 1
  known_law law did = law seated unaware new 1 answer did

  -- what is known stays so after an insert of any positions, after a look at any hash, and for both
  -- after a meeting with either
  stays_law : StaysLaw → (P : ℕ → Bool) (n k hash : ℕ)
      → (InsertsAs P knowing new answer → Knows seated new 1)
      × (Finds n k hash knowing new answer → Knows seated new 1)
      × (Meets knowing unaware new other → Knows seated new 1 × Knows seated other 1)
      × (Meets unaware knowing new other → Knows seated new 1 × Knows seated other 1)
  stays_law law P n k hash = (
    λ did. law.insert seated P knowing new 1 answer is_known did,
    λ did. law.look seated n k hash knowing new 1 answer is_known did,
    λ met. law.meeting seated knowing unaware new other 1 (inl is_known) met,
    λ met. law.meeting seated unaware knowing new other 1 (inr is_known) met,
  )

  -- what one pass knows, a pass that met it finds, and an insert of it returns true
  met_law : MetLaw → Meets knowing unaware new other
      → (Finds 64 2 1 other later answer → answer ≡ true)
      × (InsertsAs (seated_positions seated 1) other later answer → answer ≡ true)
  met_law law met = (
    λ did. law.found seated knowing unaware new other later 1 answer is_known met did,
    λ did. law.inserted seated knowing unaware new other later 1 answer is_known met did,
  )

-- one pass is one of those that were asked for, and two are two; no other seat is a pass
few_law : FewLaw → (passes : ℕ)
    → (IsSeated 1 passes alone → 1 ≤ passes)
    × (IsSeated 1 passes (at 1048577 (view Pass (20 ∷ []) ∷ view Pass [] ∷ [])) → 2 ≤ passes)
few_law law passes = (
  λ rule. law 1 passes alone rule,
  λ rule. law 1 passes (at 1048577 (view Pass (20 ∷ []) ∷ view Pass [] ∷ [])) rule,
)

are_passes : (is_pass (view Pass []) ≡ true) × (is_pass (view Note []) ≡ false)
    × (is_pass (view First []) ≡ false) × (is_pass (view Spent []) ≡ false)
are_passes = (refl, refl, refl, refl)

-- what an `|` makes of words is what it decides: at the only word, and at the last of two. It
-- decides as the `Or` of word steps does
or_law : OrLaw → (first word mask p : ℕ)
    → (content (with_bits (word ∷ []) 0 mask) p
    ≡ state (content (word ∷ [])) (or_decides 0 mask ∷ []) p)
    × (content (with_bits (first ∷ word ∷ []) 1 mask) p
    ≡ state (content (first ∷ word ∷ [])) (or_decides 1 mask ∷ []) p)
    × (or_decides 1 mask p ≡ step_decides (Or 1 mask) p)
or_law law first word mask p = (
  law (word ∷ []) 0 mask p (lit< tt),
  law (first ∷ word ∷ []) 1 mask p (lit< tt),
  refl,
)
