use Rattle.std.proofs.Common.{ℕ, List, ◌∷◌}
use Rattle.summaries_engine.proofs.Common.{DefaultFilter, HoldTogether}
use Rattle.summaries_engine.proofs.crew.Crew.into_filter.Given as goal

-- the whole and those that are left hold what all held
abbrev pub invariant-others : goal.invariant-others
invariant-others g l = (first : DefaultFilter) (hashes : List ℕ)
    → HoldTogether first hashes l.fn.self.filters.items
    → HoldTogether first hashes (l.whole ∷ l.other-iterator.rest.items)
