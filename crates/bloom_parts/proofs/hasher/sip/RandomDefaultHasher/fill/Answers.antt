use Rattle.std.proofs.Common.{arith}
use Rattle.bloom_parts.proofs.BufferLemmas.{length-held_in}
use Rattle.bloom_parts.proofs.FillLemmas.{stored-few, filled-few, filled-full}
use Rattle.bloom_parts.proofs.hasher.sip.RandomDefaultHasher.fill.Goals as goal

pub invariant_of-self-else-held-eq8 : goal.invariant_of-self-else-held-eq8
invariant_of-self-else-held-eq8 c =
    let few = stored-few _ _ c.self.view_is (length-held_in _ _ c.self.told) _ c.requires _
    c.number_with-word.ensures c.if-held-eq8.false _ c.to_le_bytes-self-inside.ensures in
    record { padding = few.padding; small = omega arith }

pub returns-else-held-eq8 : goal.returns-else-held-eq8
returns-else-held-eq8 c =
    filled-few _ _ c.self.view_is (length-held_in _ _ c.self.told) _ c.requires _
    c.number_with-word.ensures c.if-held-eq8.false _ c.to_le_bytes-self-inside.ensures

pub returns-then-held-eq8 : goal.returns-then-held-eq8
returns-then-held-eq8 c =
    filled-full _ _ c.self.view_is (length-held_in _ _ c.self.told) _ c.requires _
    c.number_with-word.ensures c.if-held-eq8.true _ c.absorb.ensures
