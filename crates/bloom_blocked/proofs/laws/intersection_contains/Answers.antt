use Rattle.bloom_plain.proofs.LawLemmas.{intersection_law}
use Rattle.bloom_blocked.proofs.LawLemmas.{in_lines-lawful}
use Rattle.bloom_blocked.proofs.laws.intersection_contains.Goals as goal

pub returns : goal.returns
returns g c = intersection_law _ in_lines-lawful _
