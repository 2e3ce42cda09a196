use Rattle.bloom_plain.proofs.LawLemmas.{clear_law}
use Rattle.bloom_blocked.proofs.LawLemmas.{in_lines-lawful}
use Rattle.bloom_blocked.proofs.laws.clear_contains_nothing.Goals as goal

pub returns : goal.returns
returns g c = clear_law _ in_lines-lawful _
