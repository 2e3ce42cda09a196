-- Filters that lie under names, loaded and united one after the other.
use Rattle.std.proofs.Common.{◌≡◌, ℕ, List, [], ◌∷◌, ◌++◌, get_or, inl, inr, sym, subst, ap}
use Rattle.summaries_engine.proofs.Common.{AreWords, AnyCuttingLaw, FilledContainsLaw, EqualContentLaw, EqualityLaw, LineSubsetLaw, AnyFilter, Stop, UnitesParts, parts_of, DiffersBy, IsUnitable, IsBad, Says, IsUnionOf, UnitesShards}
use Rattle.summaries_engine.specs.declared.unions.Difference.{Difference}
use Rattle.summaries_engine.specs.Named.{AreNamed, LoadedBefore, Named, StopsUniting, misfit_text}
use Rattle.summaries_engine.proofs.FilledLemmas.{Builder}
use Rattle.summaries_engine.proofs.NameLemmas.{AllZip-more}
use Rattle.summaries_engine.proofs.RefusalLemmas.{misfit-differs, union-fits}
use Rattle.summaries_engine.proofs.ShardLemmas.{unites-shards}
use Rattle.summaries_engine.proofs.UnionLemmas.{union-first, union-next}

module _ (has : Named) (first : List ℕ) where
  -- the filters of the first name and of some others are united
  pub record IsUniting (others : List (List ℕ)) (whole : AnyFilter) : Type 0 where
    pub filter : AnyFilter
    pub filters : List AnyFilter
    pub named : AreNamed has (first ∷ others) (filter ∷ filters)
    pub union : IsUnionOf (filter ∷ filters) whole

  -- the first alone
  pub uniting-first : {f : AnyFilter} → has first f → IsUniting [] f
  uniting-first {f} here =
      record { filter = f; filters = []; named = (here, tt); union = union-first f }

  module _ {others : List (List ℕ)} {whole : AnyFilter} (so_far : IsUniting others whole) where
    -- one more, which fits
    pub uniting-next : (name : List ℕ) {shard new : AnyFilter} → has name shard
        → IsUnitable whole shard → UnitesParts whole shard new
        → IsUniting (others ++ name ∷ []) new
    uniting-next name {shard = shard} {new = new} there fits unites =
        let all = so_far.filter ∷ so_far.filters in record {
          filter = so_far.filter;
          filters = so_far.filters ++ shard ∷ [];
          named = AllZip-more has (first ∷ others) all name shard so_far.named there;
          union = union-next all whole shard new so_far.union fits unites;
        }

    -- the union has all that is said of shards
    pub uniting-all : {names : List (List ℕ)} → names ≡ first ∷ others → EqualityLaw Builder
        → EqualContentLaw Builder → AnyCuttingLaw Builder → FilledContainsLaw Builder
        → LineSubsetLaw → AreWords (parts_of whole).words → (filters : List AnyFilter)
        × AreNamed has names filters × UnitesShards filters whole
    uniting-all are equality contents cutting contains_all subset words = (
      so_far.filter ∷ so_far.filters,
      subst (λ l. AreNamed has l (so_far.filter ∷ so_far.filters)) (sym are) so_far.named,
      unites-shards so_far.filter so_far.filters whole equality contents cutting contains_all
          subset words so_far.union,
    )

    module _ {names : List (List ℕ)} (name : List ℕ) (after : List (List ℕ))
        (are : names ≡ first ∷ (others ++ name ∷ after)) where
      -- the filters before a name were loaded
      loaded-before : LoadedBefore has names (so_far.filter ∷ so_far.filters) name
      loaded-before =
          record { before = first ∷ others; after = after; are = are; loaded = so_far.named }

      -- its filter couldn't be loaded
      pub stops-unloaded : (fails : List ℕ → Stop → Type 0) {stop : Stop} → fails name stop
          → StopsUniting has fails names stop
      stops-unloaded fails failed = inr (inl (record {
        filters = so_far.filter ∷ so_far.filters;
        name = name;
        reaches = loaded-before;
        fit = union-fits so_far.filter whole so_far.filters so_far.union;
        failed = failed;
      }))

      -- its filter differs from the first
      pub stops-misfit : (fails : List ℕ → Stop → Type 0) {shard : AnyFilter} (how : Difference)
          {stop : Stop} → has name shard → DiffersBy whole shard how
          → IsBad (Says (misfit_text how name first)) stop → StopsUniting has fails names stop
      stops-misfit fails {shard = shard} how {stop = stop} there differs says = inr (inr (record {
        first = so_far.filter;
        filters = so_far.filters;
        name = name;
        shard = shard;
        how = how;
        reaches = loaded-before;
        fit = union-fits so_far.filter whole so_far.filters so_far.union;
        loaded = there;
        differs =
            misfit-differs so_far.filter whole shard so_far.filters how differs so_far.union;
        says = subst (λ n. IsBad (Says (misfit_text how name n)) stop)
            (sym (ap (λ l. get_or l 0 []) are)) says;
      }))

  -- the filter of the first name couldn't be loaded
  pub stops-first : {names : List (List ℕ)} (others : List (List ℕ)) → names ≡ first ∷ others
      → (fails : List ℕ → Stop → Type 0) {stop : Stop} → fails first stop
      → StopsUniting has fails names stop
  stops-first others are fails failed = inr (inl (record {
    filters = [];
    name = first;
    reaches = record { before = []; after = others; are = are; loaded = tt };
    fit = tt;
    failed = failed;
  }))
