use Rattle.std.proofs.Common.{refl, ◌∙◌}
use Rattle.bloom_parts.specs.contracts.hasher.sip.RandomDefaultHasher.{the_view}
use Rattle.bloom_parts.proofs.HashedLemmas.{answers}
use Rattle.bloom_parts.proofs.WriteLemmas.{finished}
use Rattle.bloom_parts.proofs.hasher.sip.writes.RandomDefaultHasherHasher.finish.Goals as goal

pub returns-clause-state : goal.returns-clause-state
returns-clause-state c =
    finished _ (the_view c.self.inside) _ c.self.view_is c.self.told c.self.invariant refl
    _ c.from_le_bytes.ensures _ c.absorb.ensures _ c.answer.ensures

pub returns-clause-hash : goal.returns-clause-hash
returns-clause-hash c k0 k1 bytes is =
    returns-clause-state c ∙ answers c.args.self.now k0 k1 bytes is
