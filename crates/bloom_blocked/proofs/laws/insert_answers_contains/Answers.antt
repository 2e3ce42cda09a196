use Rattle.bloom_plain.proofs.LawLemmas.{insert_law}
use Rattle.bloom_blocked.proofs.LawLemmas.{in_lines-lawful}
use Rattle.bloom_blocked.proofs.laws.insert_answers_contains.Goals as goal

pub returns : goal.returns
returns g c = insert_law _ in_lines-lawful _
