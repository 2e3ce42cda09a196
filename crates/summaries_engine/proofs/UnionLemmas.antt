-- Filters that are united, and the keys of which they are summaries.
use Rattle.std.proofs.Common.{◌≡◌, ℕ, Bool, false, ◌||◌, List, [], ◌∷◌, ◌++◌, get_or, map, refl, sym, ◌∙◌, ap}
use Rattle.std.proofs.Math.Bool.{or_comm}
use Rattle.summaries_engine.proofs.Common.{map-append, All-from_recursion, All-head, All-push, All-tail, list_any-append, list_any, All, content, key_of, sip, Shape, AnyFilter, HaveSameKind, HaveOneShape, UnitesParts, layout_of, parts_of, IsUnitable}
use Rattle.summaries_engine.specs.Summaries.{AreSummariesOf, HaveSameKey, IsSummaryOf, IsUnionOf, hash_in, joined, positions_in}
use Rattle.summaries_engine.proofs.FilledLemmas.{positions-append, positions-none}

-- a filter is the union of itself
pub union-first : (f : AnyFilter) → IsUnionOf (f ∷ []) f
union-first f = record {
  bits = λ p. or_comm false (content (parts_of f).words p);
  kind = All-from_recursion (HaveSameKind f) (f ∷ []) (refl, tt);
  shape = All-from_recursion (HaveOneShape f) (f ∷ []) (
    record { words = refl; hashes = refl },
    tt,
  );
  key = All-from_recursion (HaveSameKey f) (f ∷ []) (refl, tt);
}

-- one filter more, of the same kind, shape and key
pub union-next : (filters : List AnyFilter) (old other new : AnyFilter)
    → IsUnionOf filters old → IsUnitable old other → UnitesParts old other new
    → IsUnionOf (filters ++ other ∷ []) new
union-next filters old other new so_far fits united =
    let key : key_of (parts_of new).hasher ≡ key_of (parts_of old).hasher =
    ap key_of united.parts.hasher in record {
      bits = λ p.
          let on : AnyFilter → Bool = λ f. content (parts_of f).words p in
          united.parts.bits p
          ∙ ap (λ b. b || on other) (so_far.bits p)
          ∙ ap (λ b. list_any on filters || b) (or_comm false (on other))
          ∙ sym (list_any-append on filters (other ∷ []));
      kind = All-push (HaveSameKind new) filters other
          (λ i d within. sym united.kind ∙ so_far.kind i d within) (sym united.kind ∙ fits.kind);
      shape = All-push (HaveOneShape new) filters other
          (λ i d within. moved (get_or filters i d) (so_far.shape i d within))
          (moved other fits.shape);
      key = All-push (HaveSameKey new) filters other
          (λ i d within. key ∙ so_far.key i d within) (key ∙ fits.key);
    }
  where
    moved : (f : AnyFilter) → HaveOneShape old f → HaveOneShape new f
    moved f has = record {
      words = sym united.parts.shape.words ∙ has.words;
      hashes = sym united.parts.shape.hashes ∙ has.hashes;
    }

module _ (shape : Shape) (made : AnyFilter) where
  -- the positions of keys in the kind and under the key of what was made
  abbrev on_of : List (List ℕ) → ℕ → Bool
  on_of keys p = positions_in (layout_of made) shape (map (hash_in made) keys) p

  -- in the union of summaries the positions of all keys are set
  on-joined : (parts : List (List (List ℕ))) (filters : List AnyFilter)
      → AreSummariesOf shape parts filters → All (HaveSameKind made) filters
      → All (HaveSameKey made) filters → (p : ℕ)
      → list_any (λ f. content (parts_of f).words p) filters ≡ on_of (joined parts) p
  on-joined [] [] each kind same p = sym (positions-none (layout_of made) shape p)
  on-joined (keys ∷ parts) (f ∷ filters) each kind same p =
      let hashes = map (hash_in made) keys in
      let later = map (hash_in made) (joined parts) in
      let alike : layout_of f ≡ layout_of made =
      sym (All-head (HaveSameKind made) f filters kind) in
      let key : key_of (parts_of f).hasher ≡ key_of (parts_of made).hasher =
      sym (All-head (HaveSameKey made) f filters same) in
      ap (λ b. b || list_any (λ g. content (parts_of g).words p) filters) (each.0.bits p
      ∙ ap (λ layout. positions_in layout shape (map (hash_in f) keys) p) alike
      ∙ ap (λ pair. positions_in (layout_of made) shape (map (sip pair.0 pair.1) keys) p) key)
      ∙ ap (λ b. on_of keys p || b)
      (on-joined parts filters each.1 (All-tail (HaveSameKind made) f filters kind)
      (All-tail (HaveSameKey made) f filters same) p)
      ∙ sym (positions-append (layout_of made) shape hashes later p)
      ∙ ap (λ l. positions_in (layout_of made) shape l p)
      (sym (map-append (hash_in made) keys (joined parts)))
  on-joined parts filters each kind same p = absurd each

  -- the union of summaries is the summary of all keys
  pub summary-joined : (first : AnyFilter) (others : List AnyFilter)
      (parts : List (List (List ℕ))) → AreSummariesOf shape parts (first ∷ others)
      → IsUnionOf (first ∷ others) made → IsSummaryOf shape (joined parts) made
  summary-joined first others [] each union = absurd each
  summary-joined first others (keys ∷ parts) each union =
      let has = All-head (HaveOneShape made) first others union.shape in record {
        words = has.words ∙ each.0.words;
        num_hashes = has.hashes ∙ each.0.num_hashes;
        bits = λ p. union.bits p
            ∙ on-joined (keys ∷ parts) (first ∷ others) each union.kind union.key p;
      }
