use Rattle.std.proofs.Common.{ℕ, ◌-◌, refl, arith}
use Rattle.bloom_parts.proofs.LookLemmas.{tells-all, tells-off, tells_next-then}
use Rattle.bloom_parts.proofs.slices.positions.contains_in_few_words.Goals as goal

pub returns-then-num_hashes-lt4 : goal.returns-then-num_hashes-lt4
returns-then-num_hashes-lt4 c = tells-all _ _ c.new-chain.ensures _ c.next_are_on.ensures.found

pub returns-then-not-next_are_on : goal.returns-then-not-next_are_on
returns-then-not-next_are_on c =
    tells-off _ _ c.new-chain.ensures 3 (omega (arith, c.if-num_hashes-lt4.false))
    c.if-not-next_are_on.ensures.found

pub returns-then-num_hashes-lt7 : goal.returns-then-num_hashes-lt7
returns-then-num_hashes-lt7 c =
    tells-all _ _ c.new-chain.ensures _
    (tells_next-then 3 _ _ _ _ _ _ _ (omega (arith, c.if-num_hashes-lt4.false))
    c.if-not-next_are_on.ensures.moved c.if-not-next_are_on.ensures.found
    c.next_are_on-then-num_hashes-lt7.ensures.found)

pub returns-then-not-next_are_on-2 : goal.returns-then-not-next_are_on-2
returns-then-not-next_are_on-2 c =
    tells-off _ _ c.new-chain.ensures 7 (omega (arith, c.if-num_hashes-lt7.false))
    (tells_next-then 3 4 _ _ _ _ _ _ refl
    c.if-not-next_are_on.ensures.moved c.if-not-next_are_on.ensures.found
    c.if-not-next_are_on-2.ensures.found)

pub returns : goal.returns
returns c =
    let k : ℕ = c.args.num_hashes in
    tells-all _ _ c.new-chain.ensures _
    (tells_next-then 3 (k - 3) k _ _ _ _ _ (omega (arith, c.if-num_hashes-lt4.false))
    c.if-not-next_are_on.ensures.moved c.if-not-next_are_on.ensures.found
    (tells_next-then 4 (k - 7) (k - 3) _ _ _ _ _ (omega (arith, c.if-num_hashes-lt7.false))
    c.if-not-next_are_on-2.ensures.moved c.if-not-next_are_on-2.ensures.found
    c.next_are_on-4.ensures.found))
