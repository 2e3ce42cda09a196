-- Filters that have names, and why they aren't united. A name is its list of bytes.
use Rattle.std.specs.Prelude.{◌≡◌, ◌⊎◌, ℕ, codes, List, [], ◌∷◌, ◌++◌, get_or, All, ⊤}
use Rattle.std.specs.List.{AllZip}
use Rattle.summaries_engine.specs.declared.kinds.AnyFilter.{AnyFilter}
use Rattle.summaries_engine.specs.declared.stop.Stop.{Stop}
use Rattle.summaries_engine.specs.declared.unions.Difference.{Difference}
use Rattle.summaries_engine.specs.declared.unions.Difference.TheVariants as difference
use Rattle.summaries_engine.specs.Refusals.{DiffersBy, IsUnitable}
use Rattle.summaries_engine.specs.Stops.{IsBad, Says}

-- which filters lie under which names
abbrev pub Named : Type 1
Named = List ℕ → AnyFilter → Type 0

-- each filter lies under the name with its index, and there are no others
abbrev pub AreNamed : Named → List (List ℕ) → List AnyFilter → Type 0
AreNamed has names filters = AllZip has names filters

-- these filters lie under the names before this one
pub record LoadedBefore (has : Named) (names : List (List ℕ)) (filters : List AnyFilter)
    (name : List ℕ) : Type 0 where
  pub before : List (List ℕ)
  pub after : List (List ℕ)
  pub are : names ≡ before ++ name ∷ after
  pub loaded : AreNamed has before filters

-- the filters behind the first fit it
abbrev pub FitFirst : List AnyFilter → Type 0
FitFirst [] = ⊤
FitFirst (first ∷ others) = All (IsUnitable first) others

-- filters that fit the first lie under the names before one, which fails
pub record StopsUnloaded (has : Named) (fails : List ℕ → Stop → Type 0)
    (names : List (List ℕ)) (stop : Stop) : Type 0 where
  pub filters : List AnyFilter
  pub name : List ℕ
  pub reaches : LoadedBefore has names filters name
  pub fit : FitFirst filters
  pub failed : fails name stop

-- what is said of a filter that differs from the first, by both names
abbrev pub misfit_text : Difference → List ℕ → List ℕ → List ℕ
misfit_text difference.Kind name first = name ++ (codes ": its kind isn't that of " ++ first)
misfit_text difference.Shape name first =
    name ++ (codes ": its shape isn't that of " ++ first)
misfit_text difference.Key name first = name ++ (codes ": its key isn't that of " ++ first)

-- the filter of a name differs from that of the first, which those before it fit, and both names
-- are said
pub record StopsAtMisfit (has : Named) (names : List (List ℕ)) (stop : Stop) : Type 0 where
  pub first : AnyFilter
  pub filters : List AnyFilter
  pub name : List ℕ
  pub shard : AnyFilter
  pub how : Difference
  pub reaches : LoadedBefore has names (first ∷ filters) name
  pub fit : All (IsUnitable first) filters
  pub loaded : has name shard
  pub differs : DiffersBy first shard how
  pub says : IsBad (Says (misfit_text how name (get_or names 0 []))) stop

-- there is no union: of no name, and else at the first name whose filter can't be loaded or differs
abbrev pub StopsUniting : Named → (List ℕ → Stop → Type 0) → List (List ℕ) → Stop → Type 0
StopsUniting has fails names stop =
    ((names ≡ []) × IsBad (Says (codes "no filter was named")) stop)
    ⊎ StopsUnloaded has fails names stop ⊎ StopsAtMisfit has names stop
