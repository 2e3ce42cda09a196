use Rattle.bloom_plain.proofs.LawLemmas.{anywhere-lawful, kept_by_insert_law, kept_by_union_law}
use Rattle.bloom_plain.proofs.FoundLemmas.{kept_by_list_law, kept_by_inserts_law}
use Rattle.bloom_plain.proofs.laws.contained_stays.Goals as goal

pub returns-clause-insert : goal.returns-clause-insert
returns-clause-insert g c = kept_by_insert_law _ anywhere-lawful _

pub returns-clause-union : goal.returns-clause-union
returns-clause-union g c = kept_by_union_law _ anywhere-lawful _

pub returns-clause-list : goal.returns-clause-list
returns-clause-list g c = kept_by_list_law _

pub returns-clause-inserts : goal.returns-clause-inserts
returns-clause-inserts g c = kept_by_inserts_law _
