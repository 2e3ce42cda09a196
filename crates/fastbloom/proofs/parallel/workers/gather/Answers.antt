use Rattle.fastbloom.proofs.FillLemmas.{gathered-same, gathered-next}
use Rattle.fastbloom.proofs.parallel.workers.gather.Goals as goal

-- a worker's filter has the shape of the whole
pub union-requires : goal.union-requires
union-requires g c =
    gathered-same c.in-Some.ensures.items _ c.args.shape (λ w. w.shape) (λ w. w.hashes.value.items)
    c.workers.invariant c.join-part.ensures.filled

-- a worker's hashes more
pub workers-preserved : goal.workers-preserved
workers-preserved g c =
    gathered-next c.in-Some.ensures.items _ c.args.shape (λ w. w.shape) (λ w. w.hashes.value.items)
    c.workers.invariant c.join-part.ensures.filled c.union.ensures.unites
