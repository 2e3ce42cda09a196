use Rattle.std.proofs.Common.{◌≡◌, length}
use Rattle.fastbloom_c.specs.Passed.{vector_of}
use Rattle.fastbloom_c.specs.BlockedShared.{TellsSetInLine}
use Rattle.fastbloom_c.proofs.SharedLemmas.{TellsFirstInTurn}
use Rattle.fastbloom_c.proofs.blocked.shared_many.insert_each_telling.Given as goal

-- the hashes so far were inserted, in turn, their bits tell of them, and no other is set
abbrev pub invariant-hashes : goal.invariant-hashes
invariant-hashes l = record {
  tells : TellsFirstInTurn (TellsSetInLine (vector_of l.words.at l.words.len) l.num_hashes) l.hashes
      l.hash-index l.turn l.fresh;
  shape : length l.fresh ≡ length l.fn.fresh;
  at : l.i ≡ l.hash-index;
}
