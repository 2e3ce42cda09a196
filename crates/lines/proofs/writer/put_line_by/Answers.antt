use Rattle.lines.proofs.WritingLemmas.{part-both}
use Rattle.lines.proofs.writer.put_line_by.Goals as goal

pub returns-clause-part : goal.returns-clause-part
returns-clause-part g c =
    part-both _ _ _ _ _ _ c.in_ok-put_bytes.ensures.whole c.put_bytes-2.ensures.part
