use Rattle.std.proofs.Common.{refl}
use Rattle.bloom_parts.specs.Sip.{whole_words, rest}
use Rattle.bloom_parts.proofs.hasher.sip.RandomDefaultHasher.keyed.Goals as goal

pub returns : goal.returns
unfolding whole_words rest
returns c = record { low = refl; high = refl; words = c.new.ensures; held = refl; count = refl }
