use Rattle.std.proofs.Common.{◌≤◌, ◌-◌, length}
use Rattle.summaries_engine.specs.Batches.{AnswersFirst}
use Rattle.summaries_engine.proofs.answers.write_first.Given as goal

-- the keys so far were answered
abbrev pub invariant-keys : goal.invariant-keys
invariant-keys g l = record {
  few : l.count ≤ length l.hashes;
  done : AnswersFirst l.filter l.wanted g.row.END l.bytes l.rest l.count
      (g.O.Write.contents l.fn.output) (g.O.Write.contents l.output);
}

-- the hashes that are left
abbrev pub decreases-keys : goal.decreases-keys
decreases-keys g l = length l.hashes - l.count
