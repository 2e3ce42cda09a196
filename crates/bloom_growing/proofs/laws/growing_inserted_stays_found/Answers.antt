use Rattle.bloom_growing.proofs.GrowingLawLemmas.{growing_kept_law, growing_found_law}
use Rattle.bloom_growing.proofs.laws.growing_inserted_stays_found.Goals as goal

pub returns-clause-kept : goal.returns-clause-kept
returns-clause-kept g c = growing_kept_law _

pub returns-clause-found : goal.returns-clause-found
returns-clause-found g c = growing_found_law _
