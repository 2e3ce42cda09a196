use Rattle.bloom_parts.proofs.HalvingLemmas.{one_size_law}
use Rattle.bloom_parts.proofs.laws.size_of_rate.Goals as goal

pub returns : goal.returns
returns c = one_size_law
