use Rattle.std.proofs.Common.{arith, subst}
use Rattle.fastbloom.specs.Replies.{InsertsAll}
use Rattle.summaries_engine.proofs.CrewLemmas.{part-cut}
use Rattle.summaries_engine.proofs.crew.insert_part.Goals as goal

-- the part was inserted
pub returns : goal.returns
returns g =
    subst (λ l. InsertsAll g.args.filter.now l g.insert_hashes.new.self)
    (part-cut g.args.hashes.now g.split_at.result.1.now g.split_at-2.result.0.now
    g.args.size g.args.number g.min.result g.min-2.result
    (omega (arith, g.saturating_mul.ensures, g.min.ensures)) g.split_at.ensures.back
    g.min-2.ensures g.split_at-2.ensures.front)
    g.insert_hashes.ensures
