use Rattle.bloom_plain.proofs.FoundLemmas.{found_law, found_after_inserts_law, found_after_replay_law}
use Rattle.bloom_plain.proofs.laws.inserted_stays_found.Goals as goal

pub returns-clause-operations : goal.returns-clause-operations
returns-clause-operations g c = found_law _

pub returns-clause-replay : goal.returns-clause-replay
returns-clause-replay g c = found_after_replay_law _

pub returns-clause-inserts : goal.returns-clause-inserts
returns-clause-inserts g c = found_after_inserts_law _
