use Rattle.std.proofs.Common.{◌≡◌, map}
use Rattle.std.specs.Prelude.{All}
use Rattle.fastbloom.proofs.parallel.workers.jobs_of.Given as goal

-- the parts so far have their jobs, each of the shape
abbrev pub invariant-parts : goal.invariant-parts
invariant-parts g l = record {
  hashes : map (λ job. job.hashes.items) l.jobs.items ≡ map (λ part. part.items) l.yielded;
  shaped : All (λ job. job.shape ≡ l.shape) l.jobs.items;
}
