use Rattle.lines.proofs.FirstEndLemmas.{first-ends}
use Rattle.lines.proofs.piece.first_end.Goals as goal

pub returns : goal.returns
returns g c = first-ends g.row.END c.args.bytes.now c.memchr.result c.memchr.ensures
