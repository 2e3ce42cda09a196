use Rattle.fastbloom.proofs.SeatedLemmas.Passes.Setting.{by-set}
use Rattle.fastbloom.proofs.seated.looks.set_position.Goals as goal

-- the step tells of the one position of the mask
pub returns-clause-inserts : goal.returns-clause-inserts
returns-clause-inserts c =
    let place = c.word_and_mask-word.ensures in
    by-set c.args.seat.now c.set_bits.new.seat c.args.position _ _ c.set_bits.result _ place.word
    place.mask (c.is_set.ensures _ place.mask) c.set_bits.ensures.table c.set_bits.ensures.step
