use Rattle.lines.proofs.WritingLemmas.{IsWriting}
use Rattle.lines.proofs.writer.put_bytes.Given as goal

-- all but the rest was written
abbrev pub invariant-writes : goal.invariant-writes
invariant-writes g l =
    IsWriting l.text l.rest (g.W.Write.contents l.fn.output) (g.W.Write.contents l.output)
