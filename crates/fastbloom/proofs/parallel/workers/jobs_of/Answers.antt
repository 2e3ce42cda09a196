use Rattle.std.proofs.Common.{◌≡◌, refl}
use Rattle.fastbloom.proofs.Common.{map-append, All-push}
use Rattle.fastbloom.proofs.parallel.workers.jobs_of.Goals as goal

-- one job more
pub parts-preserved : goal.parts-preserved
parts-preserved g c = record {
  hashes = rw (
    c.in_ok-push.ensures.items,
    map-append (λ job. job.hashes.items) c.parts.jobs.items _,
    map-append (λ part. part.items) c.parts.yielded _,
    c.parts.invariant.hashes,
  ) refl;
  shaped = rw c.in_ok-push.ensures.items
      (All-push (λ job. job.shape ≡ c.args.shape) c.parts.jobs.items _
      c.parts.invariant.shaped refl);
}
