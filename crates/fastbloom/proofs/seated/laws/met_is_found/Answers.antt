use Rattle.fastbloom.proofs.SeatedLemmas.Laws.{met_law}
use Rattle.fastbloom.proofs.seated.laws.met_is_found.Goals as goal

pub returns : goal.returns
returns c = met_law
