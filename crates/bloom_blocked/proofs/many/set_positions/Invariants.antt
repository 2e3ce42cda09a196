use Rattle.std.proofs.Common.{◌≡◌, ◌*◌, ◌||◌, ℕ, length}
use Rattle.bloom_parts.specs.Chain.{IsAt}
use Rattle.bloom_blocked.proofs.Common.{content, positions}
use Rattle.bloom_blocked.proofs.many.set_positions.Given as goal

-- the first positions were set, and the chain stands after them
abbrev pub invariant-places : goal.invariant-places
invariant-places l = record {
  stands : IsAt l.hash l._place l.chain;
  content : (p : ℕ) → content l.words p ≡ (content l.fn.words p
      || positions (64 * length l.fn.words) l._place l.hash p);
  shape : length l.words ≡ length l.fn.words;
}
