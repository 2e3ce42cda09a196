use Rattle.std.proofs.Common.{map}
use Rattle.bloom_plain.proofs.QueueLemmas.{AreQueued}
use Rattle.bloom_plain.proofs.queue.insert_together.Given as goal

-- the hashes of the items so far were inserted, but for those that wait
abbrev pub invariant-given : goal.invariant-given
invariant-given g l = AreQueued g.F.TakesHashes.took l.together l.fn.to
    (map (λ item. g.F.TakesHashes.hash_of l.fn.to (g.T.Hash.hash_input item)) l.yielded)
    l.waiting.items l.to
