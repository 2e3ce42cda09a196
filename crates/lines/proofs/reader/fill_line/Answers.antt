use Rattle.std.proofs.Common.{◌∙◌, inl, rules}
use Rattle.lines.proofs.ReadingLemmas.{halfway-more, loses-half, loses-more, takes-ended, takes-long, takes-last, told-now}
use Rattle.lines.proofs.reader.fill_line.Goals as goal

pub returns-in-Ended-clause-next : goal.returns-in-Ended-clause-next
returns-in-Ended-clause-next g c =
    takes-ended _ _ c.pieces.invariant.half (rw c.in-Ended.is at c.in_ok-move_piece.ensures.moved)

pub returns-in-TooLong-clause-next : goal.returns-in-TooLong-clause-next
returns-in-TooLong-clause-next g c =
    takes-long _ _ c.pieces.invariant.half (rw c.in-TooLong.is at c.in_ok-move_piece.ensures.moved)

pub returns-else-is_empty-clause-next : goal.returns-else-is_empty-clause-next
returns-else-is_empty-clause-next g c =
    let more = rw c.in-All.is at c.in_ok-move_piece.ensures.moved in
    let read = c.in_ok-refill.ensures in
    let half = halfway-more _ _ c.pieces.invariant.half more _ _ read.taken in
    takes-last _ _ half (read.end c.if-ended.true) (read.knows c.if-ended.true) (search rules)

pub pieces-preserved : goal.pieces-preserved
pieces-preserved g c = let before = c.pieces.invariant in
    let more = rw c.in-All.is at c.in_ok-move_piece.ensures.moved in
    let read = c.in_ok-refill.ensures in
    record {
      half = halfway-more _ _ before.half more _ _ read.taken;
      knows = read.knows;
      told = λ is. read.told (before.told is);
      unasked = λ is.
          read.quiet (told-now before.told (before.first is) is more) ∙ before.unasked is;
      first = λ is. inl (read.told (told-now before.told (before.first is) is more));
    }

pub returns-in_err-move_piece-clause-lost : goal.returns-in_err-move_piece-clause-lost
returns-in_err-move_piece-clause-lost g c =
    loses-half _ _ c.pieces.invariant.half c.in_err-move_piece.ensures.kept

pub returns-in_err-refill-clause-lost : goal.returns-in_err-refill-clause-lost
returns-in_err-refill-clause-lost g c =
    loses-more _ _ c.pieces.invariant.half _ _ (rw c.in-All.is at c.in_ok-move_piece.ensures.moved)
    c.in_err-refill.ensures.kept c.in_err-refill.ensures.none
