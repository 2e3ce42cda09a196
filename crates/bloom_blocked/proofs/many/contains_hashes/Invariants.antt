use Rattle.std.proofs.Common.{◌≡◌, ◌*◌, ◌/◌, ◌&&◌, ℕ, length, nat_lt}
use Rattle.bloom_blocked.proofs.Common.{content, is_found, are_in_line}
use Rattle.bloom_blocked.proofs.many.contains_hashes.Given as goal

-- the words so far tell whether their hashes are contained, and no other bit is set
abbrev pub invariant-turns : goal.invariant-turns
invariant-turns l = record {
  bits : (p : ℕ) → content l.found p ≡ (nat_lt p (64 * l.turn) && (nat_lt p (length l.hashes)
      && is_found (are_in_line (length l.words / 8) l.num_hashes) (content l.words) l.hashes p));
  shape : length l.found ≡ length l.fn.found;
}
