use Rattle.std.proofs.Common.{◌≡◌, ◌/◌, ◌&&◌, ◌∷◌, [], ℕ, length, nat_lt, take}
use Rattle.bloom_blocked.proofs.Common.{content, is_new, with_all, are_in_line, line_positions}
use Rattle.bloom_blocked.proofs.many.telling.insert_each_telling.Given as goal

-- the hashes so far were inserted, their bits tell which were new, and no other is set
abbrev pub invariant-hashes : goal.invariant-hashes
invariant-hashes l = record {
  bits : (p : ℕ) → content (l.fresh ∷ []) p ≡ (nat_lt p l.hash-index
      && is_new (line_positions (length l.fn.words / 8) l.fn.num_hashes)
      (are_in_line (length l.fn.words / 8) l.fn.num_hashes) (content l.fn.words) l.hashes p);
  content : (p : ℕ) → content l.words p
      ≡ with_all (line_positions (length l.fn.words / 8) l.fn.num_hashes) (content l.fn.words)
      (take l.hash-index l.hashes) p;
  shape : length l.words ≡ length l.fn.words;
  at : l.i ≡ l.hash-index;
}
