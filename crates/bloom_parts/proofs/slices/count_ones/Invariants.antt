use Rattle.std.proofs.Common.{◌≡◌, ◌*◌, ◌≤◌}
use Rattle.bloom_parts.proofs.Common.{content, count_on}
use Rattle.bloom_parts.proofs.slices.count_ones.Given as goal

-- the positions of the words so far were counted
abbrev pub invariant-words : goal.invariant-words
invariant-words l = record {
  counted : l.count ≡ count_on (content l.words) (64 * l.word-index);
  most : l.count ≤ 64 * l.word-index;
}
