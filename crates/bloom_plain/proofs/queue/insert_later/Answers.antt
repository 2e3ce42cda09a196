use Rattle.std.proofs.Common.{subst}
use Rattle.bloom_plain.proofs.QueueLemmas.{queues-insert, queues-wait}
use Rattle.bloom_plain.proofs.queue.insert_later.Goals as goal

pub returns-then-is_full-clause-queues : goal.returns-then-is_full-clause-queues
returns-then-is_full-clause-queues g c =
    queues-insert g.F.TakesHashes.took _ _ _ _ _ _ c.push.ensures.items
    (subst (λ l. g.F.TakesHashes.took c.args.to.now l c.insert_many.new.self) c.deref.ensures.0
    c.insert_many.ensures)
    c.clear.ensures

pub returns-else-is_full-clause-queues : goal.returns-else-is_full-clause-queues
returns-else-is_full-clause-queues g c =
    queues-wait g.F.TakesHashes.took g.met.F.TakesHashes.none _ _ _ _ c.push.ensures.items
