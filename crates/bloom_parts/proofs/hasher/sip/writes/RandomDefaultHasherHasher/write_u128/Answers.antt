use Rattle.std.specs.Int.{w128, to_le_bytes}
use Rattle.bloom_parts.proofs.HashedLemmas.{takes}
use Rattle.bloom_parts.proofs.hasher.sip.writes.RandomDefaultHasherHasher.write_u128.Goals as goal

pub returns-clause-taken : goal.returns-clause-taken
returns-clause-taken c = takes c.args.self.now c.write.new.self (to_le_bytes w128 c.args.i) (cc)
