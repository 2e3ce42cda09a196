use Rattle.bloom_plain.proofs.LawLemmas.{anywhere-lawful, intersection_law}
use Rattle.bloom_plain.proofs.laws.intersection_contains.Goals as goal

pub returns : goal.returns
returns g c = intersection_law _ anywhere-lawful _
