use Rattle.fastbloom.proofs.FillLawLemmas.{any_cutting_law}
use Rattle.fastbloom.proofs.laws.fill_of_any_cutting.Goals as goal

pub returns : goal.returns
returns g c = any_cutting_law _ c.equality_of_filters.ensures.content
