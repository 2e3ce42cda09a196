use Rattle.std.proofs.Common.{not, sym, ap}
use Rattle.lines.proofs.LineLemmas.{has_no_end-not}
use Rattle.lines.proofs.piece.has_end.Goals as goal

pub returns-in-Some : goal.returns-in-Some
returns-in-Some g c =
    let end = c.in-Some.ensures in
    sym (ap not (has_no_end-not c.args.bytes.now c.in-Some.field-0 end.within end.ended))
