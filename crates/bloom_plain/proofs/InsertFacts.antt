-- Inserts of one hash and of lists, at values from outside: for each definition that public clauses
-- cite a case that holds and cases as near as can be that don't. Among 64 bits and with two hashes,
-- hash 0 has position 0 alone, and hash 1 has the positions 0 and 20.
use Rattle.std.proofs.Common.{◌≡◌, ◌-◌, ◌<◌, ◌^◌, ℕ, Bool, true, false, ◌||◌, [], ◌∷◌, refl, ap, ◌∙◌, arith, lit<}
use Rattle.bloom_plain.proofs.Common.{chain, content, Insert, state_after, positions, are_in, contains, Inserts, InsertsAll, InsertsItems, anywhere}
use Rattle.bloom_plain.proofs.CaseLemmas.{alike_below, content-case, content-past, positions-past}
use Rattle.bloom_plain.proofs.FilterFacts.{filter, one_word}

-- a hash is inserted into one word, where the words agree bit by bit
pub inserts-word : (old new k hash : ℕ) (reply : Bool) → hash < 2 ^ 64
    → reply ≡ contains anywhere (filter (old ∷ []) k 7) hash
    → alike_below 64 (content (new ∷ [])) (λ p. content (old ∷ []) p || positions 64 k hash p)
    ≡ true
    → Inserts anywhere (filter (old ∷ []) k 7) hash (filter (new ∷ []) k 7) reply
inserts-word old new k hash reply fits answers alike = record {
  answers = answers;
  bits = content-case (new ∷ []) (λ p. content (old ∷ []) p || positions 64 k hash p) alike
      (λ p past. ap (λ b. b || positions 64 k hash p) (content-past (old ∷ []) p past)
      ∙ positions-past 64 k hash p (lit< tt) fits past);
  shape = record { words = refl; hashes = refl };
  hasher = refl;
}

-- an insert of hash 1 into a zero word sets its two positions
pub inserts-first : Inserts anywhere (one_word 0) 1 (one_word 1048577) false
unfolding content positions chain are_in
inserts-first = inserts-word 0 1048577 2 1 false (lit< tt) refl refl

-- an insert of hash 1 into a word that has its first position sets the second
pub inserts-rest : Inserts anywhere (one_word 1) 1 (one_word 1048577) false
unfolding content positions chain are_in
inserts-rest = inserts-word 1 1048577 2 1 false (lit< tt) refl refl

-- an insert of hash 0 sets position 0, which it has twice
pub inserts-zero : Inserts anywhere (one_word 0) 0 (one_word 1) false
unfolding content positions chain are_in
inserts-zero = inserts-word 0 1 2 0 false (lit< tt) refl refl

-- a hash that was contained is told so, and one that wasn't isn't; no position of the hash stays
-- clear, none beside them is set or cleared, and shape and hasher stay
inserts-cases : Inserts anywhere (one_word 1048577) 1 (one_word 1048577) true
    × (Inserts anywhere (one_word 0) 1 (one_word 1048577) true → ⊥)
    × (Inserts anywhere (one_word 0) 1 (one_word 1) false → ⊥)
    × (Inserts anywhere (one_word 0) 1 (one_word 1048585) false → ⊥)
    × (Inserts anywhere (one_word 8) 1 (one_word 1048577) false → ⊥)
    × (Inserts anywhere (one_word 0) 1 (filter (1048577 ∷ 0 ∷ []) 2 7) false → ⊥)
    × (Inserts anywhere (one_word 0) 1 (filter (1048577 ∷ []) 2 8) false → ⊥)
unfolding content positions chain are_in
inserts-cases = (
  inserts-word 1048577 1048577 2 1 true (lit< tt) refl refl,
  λ did. let wrong : true ≡ false = did.answers in cc,
  λ did. let wrong : false ≡ true = did.bits 20 in cc,
  λ did. let wrong : true ≡ false = did.bits 3 in cc,
  λ did. let wrong : false ≡ true = did.bits 3 in cc,
  λ did. omega (arith, did.shape.words),
  λ did. omega (arith, did.hasher),
)

-- hashes 1 and 0 are inserted into a zero word, and hash 0 is found
pub inserts_all : InsertsAll (one_word 0) (1 ∷ 0 ∷ []) (one_word 1048577)
unfolding content positions chain are_in
inserts_all = (
  false ∷ true ∷ [],
  record {
    bits = content-case (1048577 ∷ [])
        (state_after 64 2 (content (0 ∷ [])) (Insert 1 ∷ Insert 0 ∷ [])) refl
        (λ p past. rw (positions-past 64 2 0 p (lit< tt) (lit< tt) past)
        (rw (positions-past 64 2 1 p (lit< tt) (lit< tt) past) (content-past (0 ∷ []) p past)));
    answers = refl;
    shape = record { words = refl; hashes = refl };
    hasher = refl;
  },
)

-- a list of inserts leaves out no hash, and items are inserted by their hashes under the filter's
-- hasher alone: here the item less the hasher's number
inserts_items-cases : InsertsItems (λ hasher item. item - hasher) (one_word 0) (8 ∷ 7 ∷ [])
    (one_word 1048577)
    × (InsertsItems (λ hasher item. item - hasher) (filter (0 ∷ []) 2 8) (8 ∷ 7 ∷ [])
    (filter (1048577 ∷ []) 2 8) → ⊥)
    × (InsertsAll (one_word 0) (0 ∷ 1 ∷ []) (one_word 1) → ⊥)
unfolding content positions chain
inserts_items-cases = (
  inserts_all,
  λ did. let wrong : true ≡ false = did.1.bits 20 in cc,
  λ did. let wrong : false ≡ true = did.1.bits 20 in cc,
)
