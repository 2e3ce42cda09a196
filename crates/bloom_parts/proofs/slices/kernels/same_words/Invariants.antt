use Rattle.std.proofs.Common.{◌≡◌, ◌+◌, ◌*◌, take}
use Rattle.bloom_parts.proofs.slices.kernels.same_words.Given as goal

-- the groups so far are equal
abbrev pub invariant-groups : goal.invariant-groups
invariant-groups l = record {
  front : take (8 * l.group) l.words ≡ take (8 * l.group) l.other;
  turns : l.turns ≡ l.group;
}

-- the words of the rest so far are equal too
abbrev pub invariant-rest : goal.invariant-rest
invariant-rest l = record {
  front : take l.place l.words ≡ take l.place l.other;
  turns : l.turns + 8 * l.groups ≡ l.groups + l.place;
}
