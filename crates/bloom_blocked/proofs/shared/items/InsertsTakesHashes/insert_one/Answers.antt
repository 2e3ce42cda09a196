use Rattle.std.proofs.Common.{refl}
use Rattle.bloom_blocked.proofs.SpanLemmas.{set-one}
use Rattle.bloom_blocked.proofs.shared.items.InsertsTakesHashes.insert_one.Goals as goal

pub returns : goal.returns
returns g c = (refl, set-one _ _ _ _ _ _ c.insert_in_turn.ensures)
