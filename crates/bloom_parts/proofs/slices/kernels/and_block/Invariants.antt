use Rattle.std.proofs.Common.{◌≡◌, ◌+◌, ◌*◌}
use Rattle.std.specs.Int.Bits.{bit_and}
use Rattle.bloom_parts.proofs.MergeLemmas.{merged}
use Rattle.bloom_parts.proofs.slices.kernels.and_block.Given as goal

-- the groups so far are merged, the other words as they were
abbrev pub invariant-groups : goal.invariant-groups
invariant-groups l = record {
  words : l.words ≡ merged bit_and (8 * l.group) l.fn.words l.other;
  turns : l.turns ≡ l.fn.turns + l.group;
}
