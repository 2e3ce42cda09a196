-- How filters differ that aren't united, and what is said of a key that is too long. Keys are
-- numbered from 1, and the number stays at 2^64 - 1. This project's own.
use Rattle.std.specs.Prelude.{ℕ, ◌+◌, ◌-◌, ◌^◌, min, codes, decimal, List, ◌++◌}
use Rattle.summaries_engine.specs.declared.kinds.AnyFilter.{AnyFilter}
use Rattle.summaries_engine.specs.declared.unions.Difference.{Difference}
use Rattle.summaries_engine.specs.declared.unions.Difference.TheVariants as difference
use Rattle.summaries_engine.specs.Kinds.{HaveSameKind, HaveOneShape}
use Rattle.summaries_engine.specs.Summaries.{HaveSameKey}

-- a filter has the kind, the shape and the key of the first
pub record IsUnitable (first f : AnyFilter) : Type 0 where
  pub kind : HaveSameKind first f
  pub shape : HaveOneShape first f
  pub key : HaveSameKey first f

-- a filter differs from the first in its kind, or else in its shape, or else in its key
abbrev pub DiffersBy : AnyFilter → AnyFilter → Difference → Type 0
DiffersBy first f difference.Kind = HaveSameKind first f → ⊥
DiffersBy first f difference.Shape = HaveSameKind first f × (HaveOneShape first f → ⊥)
DiffersBy first f difference.Key =
    HaveSameKind first f × HaveOneShape first f × (HaveSameKey first f → ⊥)

-- what is said of the key after this many of an input, where it is too long
abbrev pub too_long_text : List ℕ → ℕ → List ℕ
too_long_text name before =
    name ++ (codes ": key " ++ (decimal (min (before + 1) (2 ^ 64 - 1))
    ++ codes " has more than 65536 bytes"))
