use Rattle.std.proofs.Common.{map}
use Rattle.bloom_plain.proofs.queue.insert_each.Given as goal

-- the items so far were inserted
abbrev pub invariant-given : goal.invariant-given
invariant-given g l = g.F.TakesHashes.took l.fn.to
    (map (λ item. g.F.TakesHashes.hash_of l.fn.to (g.T.Hash.hash_input item)) l.yielded) l.to
