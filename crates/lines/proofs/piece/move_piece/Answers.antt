use Rattle.std.proofs.Common.{◌+◌, ◌<◌, ◌++◌, length, sym, ◌∙◌, ap, subst, take, take-append-drop}
use Rattle.lines.specs.Reading.{HasEndAtBy}
use Rattle.lines.proofs.piece.move_piece.Goals as goal

pub returns-then-not-branch : goal.returns-then-not-branch
returns-then-not-branch g c =
    let block = c.args.block.now.bytes in
    let count = c.in-Some.count in
    let end =
    subst (λ bytes. HasEndAtBy g.row.END bytes count) c.as_slice.ensures c.in-Some.ensures in
    record {
      moved = record {
        part = take count block;
        cut =
            sym (take-append-drop count block)
            ∙ ap (λ rest. take count block ++ rest) (sym c.skip.ensures);
        inside = end.inside;
        long =
            subst (λ bytes.
            c.args.longest < length c.args.line.now.items + length (take count bytes))
            c.as_slice-in-Some.ensures
            (c.in_ok-append-in-Some.ensures.long c.if-not-branch.true);
      };
      kept = tt;
    }
