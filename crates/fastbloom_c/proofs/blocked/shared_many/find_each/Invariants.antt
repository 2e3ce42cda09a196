use Rattle.std.proofs.Common.{◌≡◌, length}
use Rattle.fastbloom_c.specs.Passed.{vector_of}
use Rattle.bloom_blocked.specs.LineSteps.{LooksInLine}
use Rattle.fastbloom_c.proofs.SharedLemmas.{TellsFirst}
use Rattle.fastbloom_c.proofs.blocked.shared_many.find_each.Given as goal

-- the bits of the hashes so far tell what the calls on them returned, and no other is set
abbrev pub invariant-looks : goal.invariant-looks
invariant-looks l = record {
  tells : TellsFirst (LooksInLine (vector_of l.words.at l.words.len) l.num_hashes) l.hashes
      l.hash-index l.found;
  shape : length l.found ≡ length l.fn.found;
  at : l.i ≡ l.hash-index;
}
