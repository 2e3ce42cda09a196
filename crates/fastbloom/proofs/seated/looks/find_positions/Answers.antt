use Rattle.std.proofs.Common.{◌*◌, inl}
use Rattle.fastbloom.specs.Passes.{sight_of}
use Rattle.fastbloom.proofs.SeatedLemmas.Places.{looks-begin}
use Rattle.fastbloom.proofs.seated.looks.find_positions.Goals as goal

-- before the first place nothing is known more
pub places-init : goal.places-init
places-init c = (
  c.new-chain.ensures,
  c.requires.pass,
  looks-begin (64 * c.args.table.now.shared.table_id.words) c.args.hash
      (sight_of c.args.seat.now),
  λ p known. inl known,
)
