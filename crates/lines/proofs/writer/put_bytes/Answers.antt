use Rattle.lines.proofs.WritingLemmas.{writing-more}
use Rattle.lines.proofs.writer.put_bytes.Goals as goal

pub writes-preserved : goal.writes-preserved
writes-preserved g c = writing-more _ _ _ _ c.writes.invariant _ _ c.in_ok-count.ensures.some
