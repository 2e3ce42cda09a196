use Rattle.std.proofs.Common.{◌≡◌, ◌+◌, ◌*◌}
use Rattle.std.specs.Int.Bits.{bit_and}
use Rattle.bloom_parts.proofs.MergeLemmas.{merged}
use Rattle.bloom_parts.proofs.slices.kernels.and_words.Given as goal

-- the parts so far are merged, the other words as they were
abbrev pub invariant-parts : goal.invariant-parts
invariant-parts l = record {
  words : l.words ≡ merged bit_and (8 * (8 * l.part)) l.fn.words l.other;
  turns : l.turns ≡ 8 * l.part;
}

-- the groups so far are merged too
abbrev pub invariant-groups : goal.invariant-groups
invariant-groups l = record {
  words : l.words ≡ merged bit_and (8 * l.group) l.fn.words l.other;
  turns : l.turns ≡ l.group;
}

-- and the words of the rest so far
abbrev pub invariant-rest : goal.invariant-rest
invariant-rest l = record {
  words : l.words ≡ merged bit_and l.place l.fn.words l.other;
  turns : l.turns + 8 * l.groups ≡ l.groups + l.place;
}
