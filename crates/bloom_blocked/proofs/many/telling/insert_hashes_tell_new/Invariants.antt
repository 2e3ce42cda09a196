use Rattle.std.proofs.Common.{◌≡◌, ◌*◌, ◌/◌, ◌&&◌, ℕ, length, nat_lt, min, take}
use Rattle.bloom_blocked.proofs.Common.{content, is_new, with_all, are_in_line, line_positions}
use Rattle.bloom_blocked.proofs.many.telling.insert_hashes_tell_new.Given as goal

-- the hashes of the turns so far were inserted, their bits tell which were new, and no other is set
abbrev pub invariant-turns : goal.invariant-turns
invariant-turns l = record {
  bits : (p : ℕ) → content l.fresh p ≡ (nat_lt p (64 * l.turn) && (nat_lt p (length l.hashes)
      && is_new (line_positions (length l.fn.words / 8) l.num_hashes)
      (are_in_line (length l.fn.words / 8) l.num_hashes) (content l.fn.words) l.hashes p));
  content : (p : ℕ) → content l.words p
      ≡ with_all (line_positions (length l.fn.words / 8) l.num_hashes) (content l.fn.words)
      (take (min (length l.hashes) (64 * l.turn)) l.hashes) p;
  words_shape : length l.words ≡ length l.fn.words;
  fresh_shape : length l.fresh ≡ length l.fn.fresh;
}
