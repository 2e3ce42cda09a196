use Rattle.std.proofs.Common.{◌≡◌, ◌*◌, ◌≤◌}
use Rattle.bloom_parts.proofs.CountLemmas.{count_merged}
use Rattle.bloom_parts.proofs.slices.count_either.Given as goal

-- the positions of the words so far were counted
abbrev pub invariant-words : goal.invariant-words
invariant-words l = record {
  counted : l.count ≡ count_merged l.words l.other l.at;
  most : l.count ≤ 64 * l.at;
}
