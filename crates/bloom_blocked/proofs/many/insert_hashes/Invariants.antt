use Rattle.std.proofs.Common.{◌≡◌, ◌*◌, ◌/◌, ◌||◌, ℕ, length, take}
use Rattle.bloom_blocked.proofs.Common.{content, positions_in_lines}
use Rattle.bloom_blocked.proofs.many.insert_hashes.Given as goal

-- the positions of the hashes of the turns so far were set
abbrev pub invariant-turns : goal.invariant-turns
invariant-turns l = record {
  content : (p : ℕ) → content l.words p ≡ (content l.fn.words p
      || positions_in_lines (length l.fn.words / 8) l.num_hashes (take (64 * l.turn) l.hashes) p);
  shape : length l.words ≡ length l.fn.words;
}
