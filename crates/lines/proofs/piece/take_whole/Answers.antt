use Rattle.std.proofs.Common.{◌≡◌, true, subst}
use Rattle.lines.specs.Lines.{has_no_end_by}
use Rattle.lines.specs.Reading.{HasEndAtBy}
use Rattle.lines.proofs.WholeLemmas.{ends-nowhere, ends-past}
use Rattle.lines.proofs.piece.take_whole.Goals as goal

pub returns-in_default-clause-none : goal.returns-in_default-clause-none
returns-in_default-clause-none g c = λ is.
    ends-nowhere
    (subst (λ bytes. has_no_end_by g.row.END bytes ≡ true) c.as_slice.ensures c.in_default.ensures)

pub returns-then-count-longest-clause-none : goal.returns-then-count-longest-clause-none
returns-then-count-longest-clause-none g c = λ is.
    ends-past
    (subst (λ bytes. HasEndAtBy g.row.END bytes c.in-Some.count) c.as_slice.ensures
    c.in-Some.ensures)
    c.if-count-longest.true
