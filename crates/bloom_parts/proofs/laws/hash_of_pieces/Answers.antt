use Rattle.bloom_parts.proofs.HashedLemmas.{cutting_law}
use Rattle.bloom_parts.proofs.laws.hash_of_pieces.Goals as goal

pub returns-clause-cutting : goal.returns-clause-cutting
returns-clause-cutting c = cutting_law
