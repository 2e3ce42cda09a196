use Rattle.fastbloom.proofs.FillLawLemmas.{filled_by_inserts_law, filled_by_union_law, union_of_positions_law}
use Rattle.fastbloom.proofs.laws.fill_equals_one_filter.Goals as goal

pub returns-clause-inserts : goal.returns-clause-inserts
returns-clause-inserts g c = filled_by_inserts_law _

pub returns-clause-union : goal.returns-clause-union
returns-clause-union g c = filled_by_union_law _

pub returns-clause-positions : goal.returns-clause-positions
returns-clause-positions g c = union_of_positions_law
