use Rattle.bloom_growing.specs.Kinds.{Blocked}
use Rattle.bloom_growing.proofs.KindLemmas.{insert-held}
use Rattle.bloom_growing.proofs.growable.blocked.BlockedBloomFilterGrowableFilter.insert_once.Goals as goal

pub returns-clause-held : goal.returns-clause-held
returns-clause-held c =
    insert-held Blocked _ _ _ _ c.content_of_words.ensures.equality c.as_slice-before.ensures.range
    c.as_slice-after.ensures.range c.insert_hash-held.ensures.inserts
