use Rattle.std.proofs.Common.{◌≡◌, ◌+◌, ◌*◌}
use Rattle.bloom_parts.proofs.ClearLemmas.{cleared}
use Rattle.bloom_parts.proofs.slices.kernels.clear_words.Given as goal

-- the groups so far are 0, the other words as they were
abbrev pub invariant-groups : goal.invariant-groups
invariant-groups l = record {
  words : l.words ≡ cleared (8 * l.group) l.fn.words;
  turns : l.turns ≡ l.group;
}

-- and so are the words of the rest so far
abbrev pub invariant-rest : goal.invariant-rest
invariant-rest l = record {
  words : l.words ≡ cleared l.place l.fn.words;
  turns : l.turns + 8 * l.groups ≡ l.groups + l.place;
}
