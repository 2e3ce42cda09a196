use Rattle.fastbloom.proofs.SeatedLemmas.Calls.{find-true, find-known}
use Rattle.fastbloom.proofs.seated.filter.SeatedBloomFilter.contains_hash_as.Goals as goal

-- the answer is whether the pass knows all positions then
pub returns-clause-found : goal.returns-clause-found
returns-clause-found c =
    find-known _ _ _ _ _ c.args.hash _ c.self.view_is c.pass.view_is c.find_positions.ensures.finds

-- what the pass could be sure of is found
pub returns-clause-sure : goal.returns-clause-sure
returns-clause-sure c =
    find-true _ _ _ _ _ c.args.hash _ c.self.view_is c.pass.view_is c.find_positions.ensures.finds
