use Rattle.std.proofs.Common.{◌≡◌, ◌+◌, length}
use Rattle.std.specs.Prelude.{All}
use Rattle.summaries_engine.proofs.crew.Crew.new.Given as goal

-- the filters so far are copies
abbrev pub invariant-filters : goal.invariant-filters
invariant-filters g l = record {
  copies : All (λ f. f ≡ l.fn.empty) l.filters.items;
  counted : 1 + length l.filters.items ≡ l.counter;
}
