use Rattle.std.proofs.Common.{◌≡◌, ◌≤◌, ◌==◌, ◌/◌, length, take}
use Rattle.bloom_blocked.proofs.Common.{content, all_are_in_lines}
use Rattle.bloom_blocked.proofs.many.all_are_set.Given as goal

-- as many hashes were found as looked up exactly if all these are contained
abbrev pub invariant-looks : goal.invariant-looks
invariant-looks l = record {
  most : l.found ≤ l.hash-index;
  on : (l.found == l.hash-index) ≡ all_are_in_lines (length l.words / 8) l.num_hashes
      (take l.hash-index l.hashes) (content l.words);
}
