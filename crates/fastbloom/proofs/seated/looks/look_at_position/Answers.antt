use Rattle.fastbloom.proofs.SeatedLemmas.Passes.Looking.{by-load}
use Rattle.fastbloom.proofs.seated.looks.look_at_position.Goals as goal

-- the load tells of the one position of the mask
pub returns-clause-looks : goal.returns-clause-looks
returns-clause-looks c =
    let place = c.word_and_mask-word.ensures in
    by-load c.args.seat.now c.load.new.seat c.args.position _ c.load.result _ place.word
    (c.is_set.ensures _ place.mask) c.load.ensures.table c.load.ensures.step
