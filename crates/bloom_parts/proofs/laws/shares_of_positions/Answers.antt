use Rattle.bloom_parts.proofs.ShareLemmas.{share_law}
use Rattle.bloom_parts.proofs.laws.shares_of_positions.Goals as goal

pub returns-clause-share : goal.returns-clause-share
returns-clause-share c = share_law
