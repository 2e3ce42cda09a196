use Rattle.bloom_plain.proofs.LawLemmas.{anywhere-lawful, insert_law}
use Rattle.bloom_plain.proofs.laws.insert_answers_contains.Goals as goal

pub returns : goal.returns
returns g c = insert_law _ anywhere-lawful _
