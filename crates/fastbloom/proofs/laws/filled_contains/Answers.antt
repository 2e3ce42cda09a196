use Rattle.fastbloom.proofs.FillLawLemmas.{filled_contains_law}
use Rattle.fastbloom.proofs.laws.filled_contains.Goals as goal

pub returns : goal.returns
returns g c = filled_contains_law _
