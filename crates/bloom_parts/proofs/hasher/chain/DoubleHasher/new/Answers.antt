use Rattle.std.proofs.Common.{refl}
use Rattle.bloom_parts.specs.Chain.{chain}
use Rattle.bloom_parts.proofs.hasher.chain.DoubleHasher.new.Goals as goal

pub returns : goal.returns
unfolding chain
returns c = record { newest = refl; added = refl }
