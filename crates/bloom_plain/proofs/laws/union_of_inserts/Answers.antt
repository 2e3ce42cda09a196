use Rattle.bloom_plain.proofs.UnitedLemmas.{united_inserts_law}
use Rattle.bloom_plain.proofs.laws.union_of_inserts.Goals as goal

pub returns : goal.returns
returns g c = united_inserts_law _
