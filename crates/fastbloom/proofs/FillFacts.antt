-- What fills a filter, and the laws of fill, at values from outside: cases that hold, and the
-- nearest that don't. Hash 1 has the positions 0, 20 and 32 among 64 bits, and hash 0 has position
-- 0 three times.
use Rattle.std.proofs.Common.{◌≡◌, ◌⊎◌, inl, inr, ℕ, ◌^◌, ◌<◌, true, false, ◌||◌, List, [], ◌∷◌, refl, sym, ap, ◌∙◌, arith, lit<}
use Rattle.std.proofs.lemmas.Grind.{common_steps}
use Rattle.std.proofs.lemmas.List.Elements.{All-from_recursion}
use Rattle.fastbloom.proofs.Common.{Contains, chain, positions, AnyCuttingLaw, FilledByInsertsLaw, FilledByUnionLaw, FilledContainsLaw, HaveSameHashes, IsFilledWith, IsPositionOfOne, UnionOfPositionsLaw, hashes_of, positions_of_all, words_of}
use Rattle.std.specs.Prelude.{IsTrue}
use Rattle.bloom_parts.specs.Content.{content, AreWords}
use Rattle.bloom_plain.specs.Filter.{Filter, Unites, contains, same_filter, anywhere}
use Rattle.bloom_plain.specs.Replies.{InsertsAll}
use Rattle.bloom_plain.proofs.CaseLemmas.{content-case, positions-past}
use Rattle.fastbloom.proofs.Cases.{plain, shape}

-- the number of words and the number of hashes
numbers : (words_of shape ≡ 1) × (hashes_of shape ≡ 3)
numbers = (refl, refl)

-- the hashes 1, 0 and 1 fill the word 4296015873
filled-three : IsFilledWith shape (1 ∷ 0 ∷ 1 ∷ []) (plain (4296015873 ∷ []) 7)
unfolding content positions chain
filled-three = record {
  words = refl;
  num_hashes = refl;
  bits = content-case (4296015873 ∷ []) (positions_of_all 64 3 (1 ∷ 0 ∷ 1 ∷ [])) refl
      (λ p past.
      let one = positions-past 64 3 1 p (lit< tt) (lit< tt) past in
      let zero = positions-past 64 3 0 p (lit< tt) (lit< tt) past in
      ap (λ b. b || (positions 64 3 0 p || (positions 64 3 1 p || false))) one
      ∙ ap (λ b. b || (positions 64 3 1 p || false)) zero
      ∙ ap (λ b. b || false) one);
}

-- a filter that is filled with hashes has all their positions set and no other, and its shape's
-- words and hashes
filled : IsFilledWith shape (1 ∷ 0 ∷ 1 ∷ []) (plain (4296015873 ∷ []) 7)
    × (IsFilledWith shape (0 ∷ 1 ∷ []) (plain (1048577 ∷ []) 7) → ⊥)
    × (IsFilledWith shape (0 ∷ 1 ∷ []) (plain (1 ∷ []) 7) → ⊥)
    × (IsFilledWith shape (0 ∷ []) (plain (3 ∷ []) 7) → ⊥)
    × (IsFilledWith shape [] (plain (0 ∷ 0 ∷ []) 7) → ⊥)
    × (IsFilledWith shape [] (record (plain (0 ∷ []) 7) { hashes = 2 }) → ⊥)
unfolding content positions chain
filled = (
  filled-three,
  λ did. (let wrong : false ≡ true = did.bits 32 in cc),
  λ did. (let wrong : false ≡ true = did.bits 20 in cc),
  λ did. (let wrong : true ≡ false = did.bits 1 in cc),
  λ did. omega (arith, did.words),
  λ did. omega (arith, did.num_hashes),
)

-- hash 0 fills the word 1
filled-zero : IsFilledWith shape (0 ∷ []) (plain (1 ∷ []) 7)
unfolding content positions chain
filled-zero = record {
  words = refl;
  num_hashes = refl;
  bits = content-case (1 ∷ []) (positions_of_all 64 3 (0 ∷ [])) refl
      (λ p past. ap (λ b. b || false) (positions-past 64 3 0 p (lit< tt) (lit< tt) past));
}

-- and hash 1 the word 4296015873
filled-one : IsFilledWith shape (1 ∷ []) (plain (4296015873 ∷ []) 8)
unfolding content positions chain
filled-one = record {
  words = refl;
  num_hashes = refl;
  bits = content-case (4296015873 ∷ []) (positions_of_all 64 3 (1 ∷ [])) refl
      (λ p past. ap (λ b. b || false) (positions-past 64 3 1 p (lit< tt) (lit< tt) past));
}

-- a position is one of the union of two hashes exactly if it is one of a hash
union_law : UnionOfPositionsLaw → (hashes : List ℕ)
    → (positions_of_all 64 3 hashes 20 ≡ true → IsPositionOfOne 64 3 hashes 20)
    × (IsPositionOfOne 64 3 hashes 20 → positions_of_all 64 3 hashes 20 ≡ true)
union_law law hashes = ((law 64 3 hashes 20).0, (law 64 3 hashes 20).1)

-- a position of the last hash is one of the union; a position of a hash that isn't in the list is
-- none, nor is a position that the hash of the list doesn't have
of_one : IsPositionOfOne 64 3 (0 ∷ 1 ∷ []) 20
    × (IsPositionOfOne 64 3 (0 ∷ []) 20 → ⊥)
    × (IsPositionOfOne 64 3 (1 ∷ []) 1 → ⊥)
unfolding positions chain
of_one = (
  record { hash = 1; given = (1, lit< tt, refl); here = refl },
  λ one. (let is : one.hash ≡ 0 = grind (arith, common_steps, one.given.1, one.given.2) in
      let wrong : false ≡ true = ap (λ hash. positions 64 3 hash 20) (sym is) ∙ one.here in
      cc),
  λ one. (let is : one.hash ≡ 1 = grind (arith, common_steps, one.given.1, one.given.2) in
      let wrong : false ≡ true = ap (λ hash. positions 64 3 hash 1) (sym is) ∙ one.here in
      cc),
)

-- the order of hashes makes no difference, nor does one that comes twice
same-hashes : HaveSameHashes (1 ∷ 0 ∷ 1 ∷ []) (0 ∷ 1 ∷ [])
same-hashes hash = (
  λ w. elim (of-three w) [
    | inl one ↦ (1, lit< tt, sym one)
    | inr other ↦ (0, lit< tt, sym other)
  ],
  λ w. elim (of-two w) [
    | inl other ↦ (1, lit< tt, sym other)
    | inr one ↦ (0, lit< tt, sym one)
  ],
)
  where
    of-three : Contains (1 ∷ 0 ∷ 1 ∷ []) hash → (hash ≡ 1) ⊎ (hash ≡ 0)
    of-three w = grind (arith, common_steps, w.1, w.2)

    of-two : Contains (0 ∷ 1 ∷ []) hash → (hash ≡ 0) ⊎ (hash ≡ 1)
    of-two w = grind (arith, common_steps, w.1, w.2)

-- whatever one word the hashes 0 and 1 fill, a filter of it equals the one that 1, 0 and 1 fill,
-- under another hasher too
cutting_law : AnyCuttingLaw ℕ → (word : ℕ) → word < 2 ^ 64
    → IsFilledWith shape (0 ∷ 1 ∷ []) (plain (word ∷ []) 8)
    → IsTrue (same_filter (plain (4296015873 ∷ []) 7) (plain (word ∷ []) 8))
cutting_law law word fits two =
    law shape (plain (4296015873 ∷ []) 7) (plain (word ∷ []) 8) (1 ∷ 0 ∷ 1 ∷ []) (0 ∷ 1 ∷ [])
    (is_word 4296015873 (lit< tt)) (is_word word fits) filled-three two same-hashes
  where
    is_word : (w : ℕ) → w < 2 ^ 64 → AreWords (w ∷ [])
    is_word w small = All-from_recursion (λ v. v < 2 ^ 64) (w ∷ []) (small, tt)

-- what inserts of hash 1 make of the filter of hash 0 is filled with both
inserts_law : FilledByInsertsLaw ℕ → (new : Filter ℕ)
    → InsertsAll (plain (1 ∷ []) 7) (1 ∷ []) new → IsFilledWith shape (0 ∷ 1 ∷ []) new
inserts_law law new inserted =
    law shape (plain (1 ∷ []) 7) new (0 ∷ []) (1 ∷ []) filled-zero inserted

-- and so is the union of the filters of hash 0 and of hash 1
filled_union_law : FilledByUnionLaw ℕ → (new : Filter ℕ)
    → Unites (plain (1 ∷ []) 7) (plain (4296015873 ∷ []) 8) new
    → IsFilledWith shape (0 ∷ 1 ∷ []) new
filled_union_law law new united =
    law shape (plain (1 ∷ []) 7) (plain (4296015873 ∷ []) 8) new (0 ∷ []) (1 ∷ []) filled-zero
    filled-one united

-- a filter that was filled with hash 0 and hash 1 contains hash 1
contains_law : FilledContainsLaw ℕ → (f : Filter ℕ) → IsFilledWith shape (0 ∷ 1 ∷ []) f
    → contains anywhere f 1 ≡ true
contains_law law f two = law shape f (0 ∷ 1 ∷ []) 1 two (1, lit< tt, refl)
