use Rattle.std.proofs.Common.{◌≡◌, ◌+◌, vec_len, rules, arith}
use Rattle.std.proofs.lemmas.List.Elements.{All-rest}
use Rattle.fastbloom.proofs.FillLemmas.{length-first, map-push-same, shaped-push}
use Rattle.fastbloom.proofs.parallel.workers.start_all.Goals as goal

-- a worker more, whose promise is of its job
pub jobs-preserved : goal.jobs-preserved
jobs-preserved g c =
    let came = c.in-Some.ensures.steps.0 in
    let jobs = c.jobs.invariant in
    let made = c.in-Ok.ensures in
    let pushed : vec_len c.push_reserved.new.self ≡ vec_len c.jobs.workers + 1 = search rules in
    let all = c.push_reserved.new.self.items in
    let is = c.push_reserved.ensures.items in record {
      hashes = map-push-same c.jobs.workers.items c.jobs.yielded _ _ _ _ {more = all} is jobs.hashes
          made.hashes;
      shaped = shaped-push came c.jobs.workers.items c.args.shape (λ w. w.shape)
          (λ job. job.shape) _ {more = all} is jobs.shaped jobs.left made.shape;
      left = All-rest (λ job. job.shape ≡ c.args.shape) _ _ _ came jobs.left;
      room = omega (arith, length-first came, pushed, jobs.room, c.push_reserved.new.self.ok);
    }
