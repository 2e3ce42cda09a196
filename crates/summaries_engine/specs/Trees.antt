-- Unions as an engine of many machines makes them: it splits keys into parts, does a part again
-- where a worker was lost, and unites the filters in any order and nesting. That is this project's
-- own.
use Rattle.std.specs.Prelude.{ℕ, List, ◌++◌}
use Rattle.fastbloom.specs.declared.parallel.shape.Shape.{Shape}
use Rattle.summaries_engine.specs.declared.kinds.AnyFilter.{AnyFilter}
use Rattle.summaries_engine.specs.Kinds.{HaveSameKind, UnitesParts}
use Rattle.summaries_engine.specs.Summaries.{HaveSameKey, IsSummaryOf}

-- a tree of unions: one part of the keys, or two trees that are united. The same part or tree may
-- come again, and a part may have no key, or a key that another one has
pub data Tree : Type 0 where
  Part : List (List ℕ) → Tree
  United : Tree → Tree → Tree

-- the keys of all parts of a tree
abbrev pub keys_of : Tree → List (List ℕ)
keys_of (Part keys) = keys
keys_of (United one other) = keys_of one ++ keys_of other

-- a tree made this filter: of one part it is the summary, and of two trees the union of what they
-- made, of one kind and under one key
abbrev pub TreeMakes : Shape → Tree → AnyFilter → Type 0
TreeMakes shape (Part keys) made = IsSummaryOf shape keys made
TreeMakes shape (United one other) made =
    (f : AnyFilter) × (g : AnyFilter) × TreeMakes shape one f × TreeMakes shape other g
    × HaveSameKind f g × HaveSameKey f g × UnitesParts f g made
