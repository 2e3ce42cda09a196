use Rattle.fastbloom.proofs.SeatedLemmas.Laws.{found_law, inserted_law}
use Rattle.fastbloom.proofs.seated.laws.sure_is_found.Goals as goal

pub returns-clause-found : goal.returns-clause-found
returns-clause-found c = found_law

pub returns-clause-inserted : goal.returns-clause-inserted
returns-clause-inserted c = inserted_law
