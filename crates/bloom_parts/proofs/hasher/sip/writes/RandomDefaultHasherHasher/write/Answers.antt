use Rattle.std.proofs.Common.{refl}
use Rattle.bloom_parts.specs.contracts.hasher.sip.RandomDefaultHasher.{the_view}
use Rattle.bloom_parts.proofs.WriteLemmas.{held-filled, has_written, has_written-both}
use Rattle.bloom_parts.proofs.hasher.sip.writes.RandomDefaultHasherHasher.write.Goals as goal

pub returns-then-held-eq0 : goal.returns-then-held-eq0
returns-then-held-eq0 c = has_written _ _ c.args.bytes.now c.push.ensures

pub returns-then-bytes-held : goal.returns-then-bytes-held
returns-then-bytes-held c = has_written _ _ c.args.bytes.now c.fill.ensures

pub push-requires-else-bytes-held : goal.push-requires-else-bytes-held
push-requires-else-bytes-held c =
    held-filled _ (the_view c.self.inside) _ _ _ c.self.view_is c.self.told refl
    c.fill-else-bytes-held.ensures c.split_at.ensures.front_len

pub returns-else-bytes-held : goal.returns-else-bytes-held
returns-else-bytes-held c =
    has_written-both _ _ _ _ _ _ c.split_at.ensures.by_index.0 c.fill-else-bytes-held.ensures
    c.push-else-bytes-held.ensures
