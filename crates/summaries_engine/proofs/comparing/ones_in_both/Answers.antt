use Rattle.summaries_engine.proofs.BothLemmas.{ones-left}
use Rattle.summaries_engine.proofs.comparing.ones_in_both.Goals as goal

-- either has at least the bits of the second
pub overflow_sub-result : goal.overflow_sub-result
overflow_sub-result c =
    (ones-left c.args.first.now c.args.second.now _ _ _ c.requires c.count_ones-one.ensures.count
    c.count_ones-other.ensures.count c.ones_in_either-either.ensures).0

-- what it has more is in the first
pub overflow_sub-result-2 : goal.overflow_sub-result-2
overflow_sub-result-2 c =
    (ones-left c.args.first.now c.args.second.now _ _ _ c.requires c.count_ones-one.ensures.count
    c.count_ones-other.ensures.count c.ones_in_either-either.ensures).1

-- the others of the first are in both
pub returns : goal.returns
returns c =
    (ones-left c.args.first.now c.args.second.now _ _ _ c.requires c.count_ones-one.ensures.count
    c.count_ones-other.ensures.count c.ones_in_either-either.ensures).2
