use Rattle.bloom_parts.proofs.LookLemmas.{tells-all}
use Rattle.bloom_parts.proofs.slices.positions.contains_by_count.Goals as goal

pub returns : goal.returns
returns c = tells-all _ _ c.new-chain.ensures _ c.next_are_on.ensures.found
