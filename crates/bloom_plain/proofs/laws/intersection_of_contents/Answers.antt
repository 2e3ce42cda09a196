use Rattle.bloom_plain.proofs.AlgebraLemmas.{intersection-comm, intersection-assoc, intersection-same}
use Rattle.bloom_plain.proofs.laws.intersection_of_contents.Goals as goal

pub returns-clause-commutative : goal.returns-clause-commutative
returns-clause-commutative g c = intersection-comm _

pub returns-clause-associative : goal.returns-clause-associative
returns-clause-associative g c = intersection-assoc _

pub returns-clause-idempotent : goal.returns-clause-idempotent
returns-clause-idempotent g c = intersection-same _
