use Rattle.bloom_blocked.proofs.PositionLemmas.{line_positions_law, line_range_law}
use Rattle.bloom_blocked.proofs.laws.positions_of_hash.Goals as goal

pub returns-clause-members : goal.returns-clause-members
returns-clause-members c = line_positions_law

pub returns-clause-range : goal.returns-clause-range
returns-clause-range c = line_range_law
