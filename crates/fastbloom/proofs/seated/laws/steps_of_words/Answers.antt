use Rattle.fastbloom.proofs.SeatedLemmas.Laws.{or_law}
use Rattle.fastbloom.proofs.seated.laws.steps_of_words.Goals as goal

pub returns : goal.returns
returns c = or_law
