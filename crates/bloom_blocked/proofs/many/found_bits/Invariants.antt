use Rattle.std.proofs.Common.{◌≡◌, ◌/◌, ◌&&◌, ◌∷◌, [], ℕ, length, nat_lt}
use Rattle.bloom_blocked.proofs.Common.{content, is_found, are_in_line}
use Rattle.bloom_blocked.proofs.many.found_bits.Given as goal

-- the bits of the hashes so far tell whether these are contained, and no other is set
abbrev pub invariant-looks : goal.invariant-looks
invariant-looks l = record {
  bits : (p : ℕ) → content (l.found ∷ []) p ≡ (nat_lt p l.hash-index
      && is_found (are_in_line (length l.words / 8) l.num_hashes) (content l.words) l.hashes p);
  at : l.i ≡ l.hash-index;
}
