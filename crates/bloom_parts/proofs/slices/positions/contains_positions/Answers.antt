use Rattle.std.proofs.Common.{arith}
use Rattle.bloom_parts.proofs.LookLemmas.{tells-all, tells-off, tells_next-then}
use Rattle.bloom_parts.proofs.slices.positions.contains_positions.Goals as goal

pub returns-then-num_hashes-lt4 : goal.returns-then-num_hashes-lt4
returns-then-num_hashes-lt4 c = tells-all _ _ c.new-chain.ensures _ c.next_are_on.ensures.found

pub returns-then-not-next_are_on : goal.returns-then-not-next_are_on
returns-then-not-next_are_on c =
    tells-off _ _ c.new-chain.ensures 3 (omega (arith, c.if-num_hashes-lt4.false))
    c.if-not-next_are_on.ensures.found

pub returns : goal.returns
returns c =
    tells-all _ _ c.new-chain.ensures _
    (tells_next-then 3 _ _ _ _ _ _ _ (omega (arith, c.if-num_hashes-lt4.false))
    c.if-not-next_are_on.ensures.moved c.if-not-next_are_on.ensures.found c.each_is_on.ensures)
