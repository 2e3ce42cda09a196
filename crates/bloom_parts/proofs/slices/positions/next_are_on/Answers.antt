use Rattle.std.proofs.Common.{arith}
use Rattle.bloom_parts.proofs.TurnLemmas.{advances-none, advances-then}
use Rattle.bloom_parts.proofs.LookLemmas.{tells_next-none, tells_next-count, digit-most}
use Rattle.bloom_parts.proofs.slices.positions.next_are_on.Goals as goal

pub places-init : goal.places-init
places-init c = record { chain = advances-none _; most = omega arith; on = tells_next-none _ _ }

pub places-preserved : goal.places-preserved
places-preserved c =
    let before = c.places.invariant in
    let next = c.next_is_on.ensures in
    let digit = c.from-on.ensures in
    record {
      chain = advances-then c.places._place 1 _ _ _ before.chain next.moved;
      most = omega (arith, digit, digit-most c.next_is_on.result, before.most);
      on = tells_next-count _ _ _ _ _ _ _ digit before.most before.chain before.on next.found;
    }
