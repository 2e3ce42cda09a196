use Rattle.bloom_plain.proofs.QueueLemmas.{took-item, took-whole}
use Rattle.bloom_plain.proofs.queue.insert_each.Goals as goal

pub given-init : goal.given-init
given-init g c = g.met.F.TakesHashes.none _

pub given-preserved : goal.given-preserved
given-preserved g c =
    took-item g.F.TakesHashes.took g.met.F.TakesHashes.join _ _ _
    (λ to item. g.F.TakesHashes.hash_of to (g.T.Hash.hash_input item))
    (λ xs item did. g.met.F.TakesHashes.keeps _ _ xs (g.T.Hash.hash_input item) did) _ _ _
    c.given.invariant c.hash_item-hash.ensures c.insert_one.ensures

pub returns : goal.returns
returns g c =
    took-whole g.F.TakesHashes.took
    (λ item. g.F.TakesHashes.hash_of _ (g.T.Hash.hash_input item)) _ _ _
    g.I.IntoIter.Iterator.next_gives _ _ _ c.given.yielded
    c.into_iter-item-iterator.ensures.into_iter_gives c.given.yielded_by c.in-None.ensures.steps
    c.given.invariant
