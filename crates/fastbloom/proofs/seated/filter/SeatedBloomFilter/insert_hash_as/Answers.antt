use Rattle.fastbloom.proofs.SeatedLemmas.Calls.{insert-true}
use Rattle.fastbloom.proofs.seated.filter.SeatedBloomFilter.insert_hash_as.Goals as goal

-- what the pass could be sure of isn't gained
pub returns-clause-sure : goal.returns-clause-sure
returns-clause-sure c =
    insert-true _ _ _ _ _ c.args.hash _ c.self.view_is c.pass.view_is
    c.insert_positions.ensures.inserts
