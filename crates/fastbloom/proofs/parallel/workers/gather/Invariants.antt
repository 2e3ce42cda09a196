use Rattle.std.proofs.Common.{map}
use Rattle.std.specs.List.{concat}
use Rattle.std.specs.Vec.Iter.{into_iter_items, into_iter_len}
use Rattle.fastbloom.proofs.FillLemmas.{IsGathered}
use Rattle.fastbloom.proofs.parallel.workers.gather.Given as goal

-- the whole is filled with the hashes of the workers that were joined
abbrev pub invariant-workers : goal.invariant-workers
invariant-workers g l =
    IsGathered l.fn.shape (concat (map (λ worker. worker.hashes.value.items) l.fn.workers.items))
    (into_iter_items l.left) (λ worker. worker.shape) (λ worker. worker.hashes.value.items)
    l.initial.whole.hasher l.whole

-- one worker fewer is left after each turn
abbrev pub decreases-workers : goal.decreases-workers
decreases-workers g l = into_iter_len l.left
