use Rattle.std.proofs.Common.{refl}
use Rattle.bloom_steps.proofs.LiveLemmas.{insert-one}
use Rattle.fastbloom.proofs.atomic.items.InsertsTakesHashes.insert_one.Goals as goal

pub returns : goal.returns
returns g c = (refl, insert-one _ _ _ _ _ _ c.insert_in_turn.ensures)
