use Rattle.std.proofs.Common.{length}
use Rattle.bloom_files.proofs.Common.{IsWriting, bytes_of}
use Rattle.bloom_files.proofs.streams.put_words.Given as goal

-- all words but the rest were written
abbrev pub invariant-pieces : goal.invariant-pieces
invariant-pieces g l =
    IsWriting (bytes_of l.words) (bytes_of l.rest) (g.W.Write.contents l.fn.output)
    (g.W.Write.contents l.output)

-- the words that are left
abbrev pub decreases-pieces : goal.decreases-pieces
decreases-pieces g l = length l.rest
