use Rattle.bloom_plain.proofs.BuilderLemmas.{equal_starts_law, equal_rate_starts_law}
use Rattle.bloom_plain.proofs.laws.equality_of_builders.Goals as goal

pub returns-clause-words : goal.returns-clause-words
returns-clause-words g c = equal_starts_law _

pub returns-clause-rates : goal.returns-clause-rates
returns-clause-rates g c = equal_rate_starts_law _
