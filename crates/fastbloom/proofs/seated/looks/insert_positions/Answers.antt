use Rattle.std.proofs.Common.{refl}
use Rattle.fastbloom.proofs.SeatedLemmas.Places.{inserts-begin, inserts-next, next-place}
use Rattle.fastbloom.proofs.seated.looks.insert_positions.Goals as goal

-- before the first place nothing is set
pub places-init : goal.places-init
places-init c = (c.new-chain.ensures, c.requires.pass, inserts-begin _ c.args.hash _)

-- then one place after the other
pub places-preserved : goal.places-preserved
places-preserved c = (
  c.next.ensures.moved c.args.hash _ c.places.invariant.0,
  c.set_position-all_set.ensures.role,
  inserts-next _ c.args.hash _ _ _ _ _ _ _ _
      (next-place _ _ c.args.hash _ _ _ c.word_count-num_bits.ensures
      (c.next.ensures.value c.args.hash _ c.places.invariant.0) c.index-position.ensures.value)
      refl c.places.invariant.2 c.set_position-all_set.ensures.inserts,
)
