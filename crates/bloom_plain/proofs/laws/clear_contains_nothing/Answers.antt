use Rattle.bloom_plain.proofs.LawLemmas.{anywhere-lawful, clear_law}
use Rattle.bloom_plain.proofs.laws.clear_contains_nothing.Goals as goal

pub returns : goal.returns
returns g c = clear_law _ anywhere-lawful _
