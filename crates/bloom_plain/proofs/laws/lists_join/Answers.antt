use Rattle.bloom_plain.specs.ListLaws.{carries_out-append}
use Rattle.bloom_plain.proofs.laws.lists_join.Goals as goal

pub returns : goal.returns
returns g c = carries_out-append
