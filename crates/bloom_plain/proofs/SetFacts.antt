-- Clear, union and intersection, at values from outside: for each definition that public clauses
-- cite a case that holds and cases as near as can be that don't.
use Rattle.std.proofs.Common.{◌≡◌, ◌+◌, ◌*◌, ℕ, true, false, ◌||◌, ◌&&◌, get_or, [], ◌∷◌, refl, ap, ◌∙◌, arith}
use Rattle.bloom_parts.specs.Content.{content}
use Rattle.bloom_plain.specs.Filter.{Filter, Clears, Unites, Intersects}
use Rattle.bloom_plain.specs.Laws.{SameContent, Combination, IsCommutative, IsAssociative, IsIdempotent}
use Rattle.bloom_plain.proofs.CaseLemmas.{alike_below, content-case, content-past}
use Rattle.bloom_plain.proofs.FilterFacts.{filter, one_word}

-- a clear clears every position of a word
pub clears : Clears (one_word 5) (one_word 0)
unfolding content
clears = record {
  bits = content-case (0 ∷ []) (λ p. false) refl (λ p past. refl);
  shape = record { words = refl; hashes = refl };
  hasher = refl;
}

-- a clear leaves no position set, and shape and hasher stay
clears-cases : (Clears (one_word 5) (one_word 4) → ⊥)
    × (Clears (one_word 5) (filter (0 ∷ 0 ∷ []) 2 7) → ⊥)
    × (Clears (one_word 5) (filter (0 ∷ []) 2 8) → ⊥)
unfolding content
clears-cases = (
  λ did. let wrong : true ≡ false = did.bits 2 in cc,
  λ did. omega (arith, did.shape.words),
  λ did. omega (arith, did.hasher),
)

-- filters of one word are united, where the words agree bit by bit
pub unites-words : (old other new hasher another : ℕ)
    → alike_below 64 (content (new ∷ [])) (λ p. content (old ∷ []) p || content (other ∷ []) p)
    ≡ true
    → Unites (filter (old ∷ []) 2 hasher) (filter (other ∷ []) 2 another)
    (filter (new ∷ []) 2 hasher)
unites-words old other new hasher another alike = record {
  bits = content-case (new ∷ []) (λ p. content (old ∷ []) p || content (other ∷ []) p) alike
      (λ p past. ap (λ b. b || content (other ∷ []) p) (content-past (old ∷ []) p past)
      ∙ content-past (other ∷ []) p past);
  shape = record { words = refl; hashes = refl };
  hasher = refl;
}

-- the other filter of the cases
abbrev pub six : Filter ℕ
six = filter (6 ∷ []) 2 8

-- the union of 5 and 6 is 7, whatever the hasher of the other: no position of the other stays
-- clear, none of both is cleared, nor one of the first alone, none of neither is set, and shape and
-- hasher stay
pub unites-cases : Unites (one_word 5) six (one_word 7)
    × (Unites (one_word 5) six (one_word 5) → ⊥)
    × (Unites (one_word 5) six (one_word 3) → ⊥)
    × (Unites (one_word 5) six (one_word 6) → ⊥)
    × (Unites (one_word 5) six (one_word 15) → ⊥)
    × (Unites (one_word 5) six (filter (7 ∷ 0 ∷ []) 2 7) → ⊥)
    × (Unites (one_word 5) six (filter (7 ∷ []) 2 8) → ⊥)
unfolding content
unites-cases = (
  unites-words 5 6 7 7 8 refl,
  λ did. let wrong : false ≡ true = did.bits 1 in cc,
  λ did. let wrong : false ≡ true = did.bits 2 in cc,
  λ did. let wrong : false ≡ true = did.bits 0 in cc,
  λ did. let wrong : true ≡ false = did.bits 3 in cc,
  λ did. omega (arith, did.shape.words),
  λ did. omega (arith, did.hasher),
)

-- the intersection of 5 and 6 is 4, whatever the hasher of the other: no position of one alone
-- stays or is set, none of both is cleared, and shape and hasher stay
pub intersects-cases : Intersects (one_word 5) six (one_word 4)
    × (Intersects (one_word 5) six (one_word 5) → ⊥)
    × (Intersects (one_word 5) six (one_word 6) → ⊥)
    × (Intersects (one_word 5) six (one_word 0) → ⊥)
    × (Intersects (one_word 5) six (filter (4 ∷ 0 ∷ []) 2 7) → ⊥)
    × (Intersects (one_word 5) six (filter (4 ∷ []) 2 8) → ⊥)
unfolding content
intersects-cases = (
  record {
    bits =
        content-case (4 ∷ []) (λ p. content (5 ∷ []) p && content (6 ∷ []) p) refl
        (λ p past. ap (λ b. b && content (6 ∷ []) p) (content-past (5 ∷ []) p past));
    shape = record { words = refl; hashes = refl };
    hasher = refl;
  },
  λ did. let wrong : true ≡ false = did.bits 0 in cc,
  λ did. let wrong : true ≡ false = did.bits 1 in cc,
  λ did. let wrong : false ≡ true = did.bits 2 in cc,
  λ did. omega (arith, did.shape.words),
  λ did. omega (arith, did.hasher),
)

-- a combination that makes the first word and twice the other's, for which none of the laws holds
abbrev weighted : Combination ℕ
weighted f g made = get_or made.words 0 0 ≡ get_or f.words 0 0 + 2 * get_or g.words 0 0

-- the union of 5 and 6 has the content of 7, whichever comes first
is_commutative-cases :
    (IsCommutative ℕ Unites → SameContent (one_word 7) (filter (7 ∷ []) 2 8))
    × (IsCommutative ℕ weighted → ⊥)
unfolding content
is_commutative-cases = (
  λ law. law (one_word 5) six (one_word 7) (filter (7 ∷ []) 2 8) unites-cases.0
      (unites-words 6 5 7 8 7 refl),
  λ law.
      let wrong : true ≡ false =
      law (one_word 1) (one_word 2) (one_word 5) (one_word 4) refl refl 0 in cc,
)

-- the union of 5, 6 and 8 has the content of 15, whichever two are united first
is_associative-cases : (IsAssociative ℕ Unites → SameContent (one_word 15) (one_word 15))
    × (IsAssociative ℕ weighted → ⊥)
unfolding content
is_associative-cases = (
  λ law. law (one_word 5) six (one_word 8) (one_word 7) (one_word 15) (filter (14 ∷ []) 2 8)
      (one_word 15) unites-cases.0 (unites-words 7 8 15 7 7 refl) (unites-words 6 8 14 8 7 refl)
      (unites-words 5 14 15 7 8 refl),
  λ law.
      let wrong : false ≡ true =
      law (one_word 1) (one_word 1) (one_word 1) (one_word 3) (one_word 5) (one_word 3)
      (one_word 7) refl refl refl refl 1 in cc,
)

-- the union of 5 with itself has the content of 5
is_idempotent-cases : (IsIdempotent ℕ Unites → SameContent (one_word 5) (one_word 5))
    × (IsIdempotent ℕ weighted → ⊥)
unfolding content
is_idempotent-cases = (
  λ law. law (one_word 5) (one_word 5) (unites-words 5 5 5 7 7 refl),
  λ law. let wrong : true ≡ false = law (one_word 1) (one_word 3) refl 1 in cc,
)
