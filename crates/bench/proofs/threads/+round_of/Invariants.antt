use Rattle.std.proofs.Common.{vec_len}
use Rattle.bench.proofs.threads.+round_of.Given as goal

-- each call leaves a worker fewer to the next
abbrev pub decreases-round_of : goal.decreases-round_of
decreases-round_of g l = vec_len l.workers.now
