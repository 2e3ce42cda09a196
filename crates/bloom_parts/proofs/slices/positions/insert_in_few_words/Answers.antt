use Rattle.std.proofs.Common.{refl, arith}
use Rattle.bloom_parts.proofs.TurnLemmas.{turned_on-none, turned_on-add, turned_on-reply, turned_on-content}
use Rattle.bloom_parts.proofs.slices.positions.insert_in_few_words.Goals as goal

pub places-init : goal.places-init
places-init c = turned_on-none _ _ _ c.new-chain.ensures

pub places-preserved : goal.places-preserved
places-preserved c =
    turned_on-add 1 _ refl c.places.invariant c.turn_on_next-off.ensures

pub returns-clause-reply : goal.returns-clause-reply
returns-clause-reply c =
    turned_on-reply (omega (arith, c.places-test.false, c.places.auto._place-end))
    c.places.invariant

pub returns-clause-content : goal.returns-clause-content
returns-clause-content c =
    turned_on-content (omega (arith, c.places-test.false, c.places.auto._place-end))
    c.places.invariant
