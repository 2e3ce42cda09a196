use Rattle.std.proofs.Common.{◌≡◌, ◌+◌, ◌≤◌, map, length, vec_len, vec_capacity}
use Rattle.std.specs.Prelude.{All}
use Rattle.fastbloom.proofs.parallel.workers.start_all.Given as goal

-- the jobs so far have their workers, and there is room for those of the jobs that are left
abbrev pub invariant-jobs : goal.invariant-jobs
invariant-jobs g l = record {
  hashes : map (λ worker. worker.hashes.value.items) l.workers.items
      ≡ map (λ job. job.hashes.items) l.yielded;
  shaped : All (λ worker. worker.shape ≡ l.fn.shape) l.workers.items;
  left : All (λ job. job.shape ≡ l.fn.shape) l.job-iterator.rest.items;
  room : vec_len l.workers + length l.job-iterator.rest.items ≤ vec_capacity l.workers;
}
