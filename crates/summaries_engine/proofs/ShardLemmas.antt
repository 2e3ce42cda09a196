-- The theorem of shards, by the laws of filled filters.
use Rattle.std.proofs.Common.{◌≡◌, ℕ, ◌<◌, List, [], ◌∷◌, length, map, get_or, sym, subst, ◌∙◌, ap}
use Rattle.summaries_engine.proofs.Common.{Contains, AreWords, sip, AnyFilter, HaveSameHashes, AnyCuttingLaw, FilledContainsLaw, EqualContentLaw, EqualityLaw, LineSubsetLaw, parts_of, IsFilled, hash_in, joined, HaveSameKeys, IsUnionOf, UnitesShards}
use Rattle.std.proofs.lemmas.List.{length-map, get_or-map, get_or_default}
use Rattle.summaries_engine.proofs.FilledLemmas.{Builder, filled-alike, filled-contains}
use Rattle.summaries_engine.proofs.UnionLemmas.{summary-joined}

module _ (hash : List ℕ → ℕ) where
  -- the hash of a key of a list is a hash of the list
  pub hash-of-key : (keys : List (List ℕ)) (key : List ℕ) → Contains keys key
      → Contains (map hash keys) (hash key)
  hash-of-key keys key given = (
    given.0,
    subst (λ n. given.0 < n) (sym (length-map keys hash)) given.1,
    get_or-map hash keys given.0 key (hash key) given.1 ∙ ap hash given.2,
  )

  -- a hash of the list is the hash of a key of it
  key-of-hash : (keys : List (List ℕ)) (h : ℕ) → Contains (map hash keys) h
      → (key : List ℕ) × Contains keys key × (hash key ≡ h)
  key-of-hash keys h given =
      let within : given.0 < length keys =
      subst (λ n. given.0 < n) (length-map keys hash) given.1 in
      let key = get_or keys given.0 [] in (
        key,
        (given.0, within, get_or_default keys given.0 key [] within),
        sym (get_or-map hash keys given.0 [] h within) ∙ given.2,
      )

  -- lists of the same keys have the same hashes
  pub hashes-same : (keys others : List (List ℕ)) → HaveSameKeys keys others
      → HaveSameHashes (map hash keys) (map hash others)
  hashes-same keys others same h = (
    λ given. let one = key-of-hash keys h given in
        subst (Contains (map hash others)) one.2
        (hash-of-key others one.0 ((same one.0).0 one.1)),
    λ given. let one = key-of-hash others h given in
        subst (Contains (map hash keys)) one.2
        (hash-of-key keys one.0 ((same one.0).1 one.1)),
  )

-- the union of filters has all that is said of it
pub unites-shards : (first : AnyFilter) (others : List AnyFilter) (made : AnyFilter)
    → EqualityLaw Builder → EqualContentLaw Builder → AnyCuttingLaw Builder
    → FilledContainsLaw Builder → LineSubsetLaw → AreWords (parts_of made).words
    → IsUnionOf (first ∷ others) made → UnitesShards (first ∷ others) made
unites-shards first others made equality contents cutting contains_all subset words union = record {
  union = union;
  summary = λ shape parts each. summary-joined shape made first others parts each union;
  same = λ shape parts keys whole each filled fit kind key same.
      let hash = hash_in made in
      let as_made : IsFilled shape (map hash keys) whole =
      subst (λ pair. IsFilled shape (map (sip pair.0 pair.1) keys) whole) key filled in
      filled-alike equality contents cutting shape made whole (map hash (joined parts))
      (map hash keys) words fit kind (summary-joined shape made first others parts each union)
      as_made (hashes-same hash (joined parts) keys same);
  found = λ shape parts key each given.
      filled-contains contains_all subset shape made (map (hash_in made) (joined parts))
      (hash_in made key)
      (summary-joined shape made first others parts each union)
      (hash-of-key (hash_in made) (joined parts) key given);
}
