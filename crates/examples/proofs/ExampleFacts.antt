-- Filters before stores, and what a pass knows of many hashes: cases that hold, and the nearest
-- that don't. Keys are their own hashes.
use Rattle.std.proofs.Common.{◌≡◌, ℕ, zero, suc, ◌*◌, ◌^◌, true, false, List, [], ◌∷◌, Option, None, Some, refl, sym, ap, ◌∙◌, arith, lit<}
use Rattle.std.proofs.lemmas.Bool.{both_ways}
use Rattle.bloom_parts.specs.Chain.{chain}
use Rattle.bloom_parts.specs.Content.{content}
use Rattle.bloom_parts.specs.Places.{are_in, positions}
use Rattle.fastbloom.specs.Filter.{Filter}
use Rattle.fastbloom.specs.Passes.{SeatedFilter, Sight}
use Rattle.fastbloom.specs.Sets.{set_of}
use Rattle.examples.specs.Guarded.{IsBefore, LacksKey}
use Rattle.examples.specs.Known.{KnowsAll}

-- a filter of these words, by two hashes; hash 1 has the positions 0 and 20 among 64 bits, which
-- make the word 1048577
abbrev filter : List ℕ → Filter ℕ
filter words = record { words = words; hashes = 2; hasher = 7 }

-- the hash of a key is the key, whatever the hasher is
abbrev hash_of : ℕ → ℕ → ℕ
hash_of _ key = key

-- a store that has key 1 alone
abbrev one : ℕ → Option ℕ
one zero = None
one (suc zero) = Some 10
one (suc (suc _)) = None

-- a filter lacks a key where it has the first of its positions alone, and not where it has both
lacks : LacksKey hash_of (filter (1 ∷ [])) 1
    × (LacksKey hash_of (filter (1048577 ∷ [])) 1 → ⊥)
unfolding content chain are_in
lacks = (refl, λ lacks. (let wrong : true ≡ false = lacks in cc))

-- a filter that has the one key of a store is before it, and not one that lacks a position of it
is_before : IsBefore hash_of (filter (1048577 ∷ [])) one
    × (IsBefore hash_of (filter (1 ∷ [])) one → ⊥)
unfolding content chain are_in
is_before = (has, λ before. (let wrong : one 1 ≡ None = before 1 lacks.0 in cc))
  where
    has : IsBefore hash_of (filter (1048577 ∷ [])) one
    has zero _ = refl
    has (suc zero) lacks = let wrong : true ≡ false = lacks in cc
    has (suc (suc _)) _ = refl

-- among 64 bits, by one hash, the hash 1 has the position 0 and the hash 2^63 has 32
module _ (f : SeatedFilter) (one_hash : f.hashes ≡ 1) (one_word : f.table.words ≡ 1) where
  at-positions : (hash p : ℕ) → positions 64 1 hash p ≡ true
      → positions (64 * f.table.words) f.hashes hash p ≡ true
  at-positions hash p on =
      ap (λ words. positions (64 * words) f.hashes hash p) one_word
      ∙ ap (λ count. positions 64 count hash p) one_hash ∙ on

  -- a pass knows all of no hashes, and of two both have to be known
  knows_all : (pass : Sight) → KnowsAll f pass []
      × (pass.known ≡ 0 ∷ [] → KnowsAll f pass (1 ∷ 2 ^ 63 ∷ []) → ⊥)
      × (pass.known ≡ 32 ∷ [] → KnowsAll f pass (1 ∷ 2 ^ 63 ∷ []) → ⊥)
  unfolding positions chain set_of
  knows_all pass = (
    λ hash in_none. absurd (omega (arith, in_none.1)),
    λ known all. both_ways (set_of (0 ∷ []) 32) refl
        (ap (λ l. set_of l 32) (sym known)
        ∙ all (2 ^ 63) (1, lit< tt, refl) 32 (at-positions (2 ^ 63) 32 refl)),
    λ known all. both_ways (set_of (32 ∷ []) 0) refl
        (ap (λ l. set_of l 0) (sym known) ∙ all 1 (0, lit< tt, refl) 0 (at-positions 1 0 refl)),
  )
