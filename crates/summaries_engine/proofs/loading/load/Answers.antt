use Rattle.std.proofs.Common.{rules}
use Rattle.summaries_engine.proofs.UnloadedLemmas.{many-right}
use Rattle.summaries_engine.proofs.loading.load.Goals as goal

-- too many hashes
pub returns-then-hashes-most-clause-right : goal.returns-then-hashes-most-clause-right
returns-then-hashes-most-clause-right g c =
    many-right _ c.args.name.now c.args.most _ c.in_ok-filter.filter c.in_ok-filter.form
    c.in_ok-filter.ensures.form (search rules) (search rules)
