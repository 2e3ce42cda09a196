use Rattle.fastbloom.proofs.SeatedLemmas.Laws.{known_law, stays_law}
use Rattle.fastbloom.proofs.seated.laws.inserted_stays_known.Goals as goal

pub returns-clause-known : goal.returns-clause-known
returns-clause-known c = known_law

pub returns-clause-stays : goal.returns-clause-stays
returns-clause-stays c = stays_law
