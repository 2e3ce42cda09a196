-- What a tree of unions makes, by the laws of filled filters.
use Rattle.std.proofs.Common.{◌≡◌, ℕ, true, List, map, sym, subst, ◌∙◌, ap}
use Rattle.summaries_engine.proofs.Common.{Contains, map-append, AreWords, key_of, sip, AnyCuttingLaw, FilledContainsLaw, EqualContentLaw, EqualityLaw, LineSubsetLaw, Shape, AnyFilter, HaveSameKind, has_hash, parts_of, HaveSameKey, HaveSameKeys, IsFilled, IsSummaryOf, hash_in}
use Rattle.summaries_engine.specs.Trees.{Tree, Part, United, TreeMakes, keys_of}
use Rattle.summaries_engine.proofs.FilledLemmas.{Builder, filled-alike, filled-contains, filled-union}
use Rattle.summaries_engine.proofs.ShardLemmas.{hash-of-key, hashes-same}

-- a summary of keys is filled with their hashes under any key that equals the filter's
filled-under : (shape : Shape) (keys : List (List ℕ)) (f made : AnyFilter)
    → key_of (parts_of f).hasher ≡ key_of (parts_of made).hasher → IsSummaryOf shape keys f
    → IsFilled shape (map (hash_in made) keys) f
filled-under shape keys f made same filled =
    subst (λ pair. IsFilled shape (map (sip pair.0 pair.1) keys) f) same filled

-- a union of two summaries is the summary of the keys of both
pub tree_summary_law : (shape : Shape) (tree : Tree) (made : AnyFilter)
    → TreeMakes shape tree made → IsSummaryOf shape (keys_of tree) made
tree_summary_law shape (Part keys) made did = did
tree_summary_law shape (United one other) made (f, g, of_one, of_other, kind, same, united) =
    let key : key_of (parts_of f).hasher ≡ key_of (parts_of made).hasher =
    sym (ap key_of united.parts.hasher) in
    let hash = hash_in made in
    subst (λ hashes. IsFilled shape hashes made)
    (sym (map-append hash (keys_of one) (keys_of other)))
    (filled-union shape f g made (map hash (keys_of one)) (map hash (keys_of other))
    (filled-under shape (keys_of one) f made key (tree_summary_law shape one f of_one))
    (filled-under shape (keys_of other) g made (sym same ∙ key)
    (tree_summary_law shape other g of_other)) kind united)

-- filters that are filled with the same hashes are equal
pub any_parts_law : EqualityLaw Builder → EqualContentLaw Builder → AnyCuttingLaw Builder
    → (shape : Shape) (tree : Tree) (keys : List (List ℕ)) (made whole : AnyFilter)
    → TreeMakes shape tree made → IsSummaryOf shape keys whole
    → AreWords (parts_of made).words → AreWords (parts_of whole).words
    → HaveSameKind whole made → HaveSameKey whole made → HaveSameKeys (keys_of tree) keys
    → ((parts_of made).words ≡ (parts_of whole).words)
    × ((parts_of made).hashes ≡ (parts_of whole).hashes)
any_parts_law equality contents cutting shape tree keys made whole did filled words fit kind key
    same =
    let hash = hash_in made in
    filled-alike equality contents cutting shape made whole (map hash (keys_of tree))
    (map hash keys) words fit kind (tree_summary_law shape tree made did)
    (filled-under shape keys whole made key filled) (hashes-same hash (keys_of tree) keys same)

-- a filter that is filled with hashes contains them
pub any_part_found_law : FilledContainsLaw Builder → LineSubsetLaw
    → (shape : Shape) (tree : Tree) (made : AnyFilter) (key : List ℕ)
    → TreeMakes shape tree made → Contains (keys_of tree) key
    → has_hash made (hash_in made key) ≡ true
any_part_found_law contains_all subset shape tree made key did given =
    filled-contains contains_all subset shape made (map (hash_in made) (keys_of tree))
    (hash_in made key) (tree_summary_law shape tree made did)
    (hash-of-key (hash_in made) (keys_of tree) key given)
