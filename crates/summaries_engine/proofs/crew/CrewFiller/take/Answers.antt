use Rattle.std.proofs.Common.{arith}
use Rattle.summaries_engine.proofs.CrewLemmas.{holds-more, parts-length}
use Rattle.summaries_engine.proofs.crew.CrewFiller.take.Goals as goal

-- threads may share what starts them
pub insert-requires-sync-R : goal.insert-requires-sync-R
insert-requires-sync-R g c κs within = c.requires.0

-- each filter is still there
pub returns-clause-ready : goal.returns-clause-ready
returns-clause-ready g c = (
  c.requires.0,
  omega (
    arith,
    c.requires.1,
    c.args.self.now.filters.ok,
    c.insert.new.self.filters.ok,
    parts-length _ _ _ _ c.insert.ensures,
  ),
)

-- each filter took its part
pub returns-clause-took : goal.returns-clause-took
returns-clause-took g c = λ start before took.
    holds-more _ _ _ _ before c.args.hashes.now took c.insert.ensures
