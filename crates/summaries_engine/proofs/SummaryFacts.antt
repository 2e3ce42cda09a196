-- What filters are to keys, and united filters to the keys of all: cases that hold, and the nearest
-- that don't.
use Rattle.std.proofs.Common.{◌≡◌, ◌⊎◌, inl, inr, ℕ, true, false, ◌||◌, List, [], ◌∷◌, refl, sym, ap, ◌∙◌, lit<, arith}
use Rattle.summaries_engine.proofs.Common.{Contains, chain, content, AreWords, positions, sip, start, round, absorb, answer, whole_words, rest, DefaultFilter, positions_of_all, LineRangeLaw, Classic, Blocked, HaveSameKey, HaveSameKeys, IsSummaryOf, UnitesShards, hash_in}
use Rattle.std.proofs.lemmas.Grind.{common_steps}
use Rattle.fastbloom.specs.Filter.{contains, anywhere}
use Rattle.summaries_engine.proofs.Cases.{filter, hash-a, key_a, key_b, line, line_shape, made_of, of_a, of_b, of_both, shape, summary-a, summary-b, summary-line}

-- the hash of "a" is that under both words of a filter's key
hash-own : (hash_in of_a key_a ≡ 0x4074_48d2_b89b_1813)
    × (hash_in (Blocked (made_of [] 2 1 0)) key_a ≡ 0x4f42_5c98_590c_1157)
    × (hash_in (Blocked (made_of [] 2 1 2)) key_a ≡ 0x2437_2da9_509d_c584)
unfolding sip start round absorb answer whole_words rest
hash-own = (refl, refl, refl)

-- the bits of "a" are a summary in either kind. One bit fewer isn't, nor are the bits of "b"
-- besides, a word or a hash more, another key, or the bits of the other kind
summary : LineRangeLaw
    → IsSummaryOf shape (key_a ∷ []) of_a
    × IsSummaryOf line_shape (key_a ∷ []) (Blocked (line 268435968))
    × (IsSummaryOf shape (key_a ∷ []) (Classic (filter 65536)) → ⊥)
    × (IsSummaryOf shape (key_a ∷ []) of_both → ⊥)
    × (IsSummaryOf shape (key_a ∷ []) (Classic (made_of (268500992 ∷ 0 ∷ []) 2 0 0)) → ⊥)
    × (IsSummaryOf shape (key_a ∷ []) (Classic (made_of (268500992 ∷ []) 3 0 0)) → ⊥)
    × (IsSummaryOf shape (key_a ∷ []) (Classic (made_of (268500992 ∷ []) 2 1 0)) → ⊥)
    × (IsSummaryOf line_shape (key_a ∷ []) (Classic (line 268435968)) → ⊥)
unfolding content positions chain
summary range = (
  summary-a,
  summary-line range,
  λ did. let wrong : false ≡ true =
      did.bits 28 ∙ ap (λ h. positions_of_all 64 2 (h ∷ []) 28) hash-a in cc,
  λ did. let wrong : true ≡ false =
      did.bits 34 ∙ ap (λ h. positions_of_all 64 2 (h ∷ []) 34) hash-a in cc,
  λ did. let wrong : 2 ≡ 1 = did.words in omega (arith, wrong),
  λ did. let wrong : 3 ≡ 2 = did.num_hashes in omega (arith, wrong),
  λ did. let wrong : true ≡ false =
      did.bits 16 ∙ ap (λ h. positions_of_all 64 2 (h ∷ []) 16) hash-a_keyed in cc,
  λ did. let wrong : false ≡ true =
      did.bits 128 ∙ ap (λ h. positions_of_all 512 2 (h ∷ []) 128) hash-a in cc,
)
  where
    hash-a_keyed : sip 1 0 key_a ≡ 0x4f42_5c98_590c_1157
    hash-a_keyed = hash-own.1

-- neither order nor number makes keys differ, and a key more or less does
same-keys : HaveSameKeys (key_a ∷ key_b ∷ key_a ∷ []) (key_b ∷ key_a ∷ [])
    × (HaveSameKeys (key_a ∷ key_b ∷ []) (key_a ∷ []) → ⊥)
    × (HaveSameKeys (key_a ∷ []) (key_a ∷ key_b ∷ []) → ⊥)
same-keys = (
  λ key. (
    λ w. elim (of-three key w) [
      | inl one ↦ (1, lit< tt, sym one)
      | inr other ↦ (0, lit< tt, sym other)
    ],
    λ w. elim (of-two key w) [
      | inl other ↦ (1, lit< tt, sym other)
      | inr one ↦ (0, lit< tt, sym one)
    ],
  ),
  λ same. no-b ((same key_b).0 (1, lit< tt, refl)),
  λ same. no-b ((same key_b).1 (1, lit< tt, refl)),
)
  where
    of-three : (key : List ℕ) → Contains (key_a ∷ key_b ∷ key_a ∷ []) key
        → (key ≡ 97 ∷ []) ⊎ (key ≡ 98 ∷ [])
    of-three key w = grind (arith, common_steps, w.1, w.2)

    of-two : (key : List ℕ) → Contains (key_b ∷ key_a ∷ []) key
        → (key ≡ 98 ∷ []) ⊎ (key ≡ 97 ∷ [])
    of-two key w = grind (arith, common_steps, w.1, w.2)

    no-b : Contains (key_a ∷ []) key_b → ⊥
    no-b there = grind (arith, common_steps, there.1, there.2)

-- keys are the same in filters of either kind, and differ where one word of them does
same-key : HaveSameKey (Classic (made_of [] 2 1 2)) (Blocked (made_of [] 3 1 2))
    × (HaveSameKey (Classic (made_of [] 2 1 2)) (Classic (made_of [] 2 1 3)) → ⊥)
    × (HaveSameKey (Classic (made_of [] 2 1 2)) (Classic (made_of [] 2 0 2)) → ⊥)
same-key = (
  refl,
  λ same. let wrong : 2 ≡ 3 = ap (λ pair. pair.1) same in omega (arith, wrong),
  λ same. let wrong : 1 ≡ 0 = ap (λ pair. pair.0) same in omega (arith, wrong),
)

-- what two shards are united to has the bits of both and no others, is the summary of both keys,
-- equals each filter of both, and contains the second's; the filter of "a" isn't it
shards : ((made : DefaultFilter) → UnitesShards (of_a ∷ of_b ∷ []) (Classic made)
    → ((p : ℕ) → content made.words p
    ≡ (content (268500992 ∷ []) p || (content (281492156579840 ∷ []) p || false)))
    × IsSummaryOf shape (key_a ∷ key_b ∷ []) (Classic made)
    × ((whole : DefaultFilter) → IsSummaryOf shape (key_b ∷ key_a ∷ []) (Classic whole)
    → AreWords whole.words → HaveSameKey (Classic whole) (Classic made)
    → HaveSameKeys (key_a ∷ key_b ∷ []) (key_b ∷ key_a ∷ [])
    → (made.words ≡ whole.words) × (made.hashes ≡ whole.hashes))
    × (contains anywhere made (hash_in (Classic made) key_b) ≡ true))
    × (UnitesShards (of_a ∷ of_b ∷ []) of_a → ⊥)
unfolding content
shards = (
  λ made unites. (
    unites.union.bits,
    unites.summary shape ((key_a ∷ []) ∷ (key_b ∷ []) ∷ []) (summary-a, (summary-b, tt)),
    λ whole is words key same.
        unites.same shape ((key_a ∷ []) ∷ (key_b ∷ []) ∷ []) (key_b ∷ key_a ∷ []) (Classic whole)
        (summary-a, (summary-b, tt)) is words refl key same,
    unites.found shape ((key_a ∷ []) ∷ (key_b ∷ []) ∷ []) key_b (summary-a, (summary-b, tt))
        (1, lit< tt, refl),
  ),
  λ unites. let wrong : false ≡ true = unites.union.bits 34 in cc,
)
