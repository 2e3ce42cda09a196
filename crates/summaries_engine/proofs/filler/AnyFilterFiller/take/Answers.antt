use Rattle.summaries_engine.proofs.FillerLemmas.{takes-more}
use Rattle.summaries_engine.proofs.filler.AnyFilterFiller.take.Goals as goal

-- the hashes were inserted
pub returns-clause-took : goal.returns-clause-took
returns-clause-took c = λ first before took.
    takes-more first c.args.self.now c.insert_hashes.new.self before c.args.hashes.now took
    c.insert_hashes.ensures
