use Rattle.bloom_growing.proofs.GrowingLawLemmas.{rates_below_law}
use Rattle.bloom_growing.proofs.laws.growing_rates_stay_below.Goals as goal

pub returns : goal.returns
returns c = rates_below_law
