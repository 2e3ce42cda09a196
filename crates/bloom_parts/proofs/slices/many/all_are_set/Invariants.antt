use Rattle.std.proofs.Common.{◌≡◌, ◌≤◌, ◌==◌, ◌*◌, length, take}
use Rattle.bloom_parts.proofs.Common.{list_all, content, are_in}
use Rattle.bloom_parts.proofs.slices.many.all_are_set.Given as goal

-- as many hashes were found as looked up exactly if all these are contained
abbrev pub invariant-looks : goal.invariant-looks
invariant-looks l = record {
  most : l.found ≤ l.hash-index;
  on : (l.found == l.hash-index) ≡ list_all
      (λ hash. are_in (64 * length l.words) l.num_hashes hash (content l.words))
      (take l.hash-index l.hashes);
}
