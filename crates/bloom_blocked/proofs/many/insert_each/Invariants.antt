use Rattle.std.proofs.Common.{◌≡◌, ◌/◌, ◌||◌, ℕ, length, take}
use Rattle.bloom_blocked.proofs.Common.{content, positions_in_lines}
use Rattle.bloom_blocked.proofs.many.insert_each.Given as goal

-- the positions of the hashes so far were set
abbrev pub invariant-hashes : goal.invariant-hashes
invariant-hashes l = record {
  content : (p : ℕ) → content l.words p ≡ (content l.fn.words p
      || positions_in_lines (length l.fn.words / 8) l.fn.num_hashes (take l.hash-index l.hashes) p);
  shape : length l.words ≡ length l.fn.words;
}
