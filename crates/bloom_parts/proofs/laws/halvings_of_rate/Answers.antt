use Rattle.bloom_parts.proofs.HalvingLemmas.{none_law, most_law}
use Rattle.bloom_parts.proofs.laws.halvings_of_rate.Goals as goal

pub returns-clause-none : goal.returns-clause-none
returns-clause-none c = none_law

pub returns-clause-most : goal.returns-clause-most
returns-clause-most c = most_law
