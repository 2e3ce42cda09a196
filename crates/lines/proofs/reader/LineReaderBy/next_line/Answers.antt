use Rattle.std.proofs.Common.{subst}
use Rattle.std.specs.Io.KnownBytes.{prepend_known}
use Rattle.lines.specs.Reading.{TakesShortBy, left_of}
use Rattle.lines.proofs.WholeLemmas.{takes-whole}
use Rattle.lines.proofs.reader.LineReaderBy.next_line.Goals as goal

pub returns-then-take_whole-clause-next : goal.returns-then-take_whole-clause-next
returns-then-take_whole-clause-next g c =
    let input = g.R.Read.remaining c.args.input.now in
    let block = c.take_whole.new.block in
    subst (λ v. TakesShortBy g.row.END v.longest (left_of v input)
    (prepend_known block.bytes input) block.line)
    c.self.view_is
    (takes-whole input (c.take_whole.ensures.taken c.if-take_whole.true).1)
