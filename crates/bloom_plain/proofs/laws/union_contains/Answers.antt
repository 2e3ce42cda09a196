use Rattle.bloom_plain.proofs.LawLemmas.{anywhere-lawful, union_law}
use Rattle.bloom_plain.proofs.laws.union_contains.Goals as goal

pub returns : goal.returns
returns g c = union_law _ anywhere-lawful _
