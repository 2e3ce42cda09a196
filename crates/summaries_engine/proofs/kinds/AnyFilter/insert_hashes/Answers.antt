use Rattle.summaries_engine.proofs.FillerLemmas.{takes-in-lines, takes-inserted}
use Rattle.summaries_engine.proofs.kinds.AnyFilter.insert_hashes.Goals as goal

-- the hashes were inserted into a filter of either kind
pub returns-in-Classic : goal.returns-in-Classic
returns-in-Classic c =
    rw c.in-Classic.is
    (takes-inserted c.fill_equals_one_filter.ensures.inserts _ _ c.args.hashes.now
    c.insert_hashes.ensures)

pub returns-in-Blocked : goal.returns-in-Blocked
returns-in-Blocked c =
    rw c.in-Blocked.is
    (takes-in-lines _ _ c.args.hashes.now c.insert_hashes-in-Blocked.ensures.inserts)
