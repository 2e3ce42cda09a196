use Rattle.fastbloom.proofs.SeatedLemmas.Laws.{few_law}
use Rattle.fastbloom.proofs.seated.laws.passes_are_few.Goals as goal

pub returns : goal.returns
returns c = few_law
