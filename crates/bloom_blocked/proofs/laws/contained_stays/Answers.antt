use Rattle.bloom_plain.proofs.LawLemmas.{kept_by_insert_law, kept_by_union_law}
use Rattle.bloom_blocked.proofs.LawLemmas.{in_lines-lawful, kept_by_inserts_law}
use Rattle.bloom_blocked.proofs.laws.contained_stays.Goals as goal

pub returns-clause-insert : goal.returns-clause-insert
returns-clause-insert g c = kept_by_insert_law _ in_lines-lawful _

pub returns-clause-inserts : goal.returns-clause-inserts
returns-clause-inserts g c = kept_by_inserts_law _

pub returns-clause-union : goal.returns-clause-union
returns-clause-union g c = kept_by_union_law _ in_lines-lawful _
