use Rattle.bloom_growing.proofs.RecentLemmas.{recent_found_law}
use Rattle.bloom_growing.proofs.laws.rotating_recent_stays_found.Goals as goal

pub returns : goal.returns
returns g c = recent_found_law _
