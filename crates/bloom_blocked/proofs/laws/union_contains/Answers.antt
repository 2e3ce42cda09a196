use Rattle.bloom_plain.proofs.LawLemmas.{union_law}
use Rattle.bloom_blocked.proofs.LawLemmas.{in_lines-lawful}
use Rattle.bloom_blocked.proofs.laws.union_contains.Goals as goal

pub returns : goal.returns
returns g c = union_law _ in_lines-lawful _
