use Rattle.bloom_plain.proofs.AlgebraLemmas.{union-comm, union-assoc, union-same}
use Rattle.bloom_plain.proofs.laws.union_of_contents.Goals as goal

pub returns-clause-commutative : goal.returns-clause-commutative
returns-clause-commutative g c = union-comm _

pub returns-clause-associative : goal.returns-clause-associative
returns-clause-associative g c = union-assoc _

pub returns-clause-idempotent : goal.returns-clause-idempotent
returns-clause-idempotent g c = union-same _
