use Rattle.std.proofs.Common.{◌≡◌, ℕ, ◌<◌, length, slice_index}
use Rattle.bloom_parts.specs.Keys.{key_low, key_high}
use Rattle.bloom_parts.specs.Sip.{sip}
use Rattle.fastbloom_c.specs.Items.{item}
use Rattle.fastbloom_c.proofs.items.hash_each.Given as goal

-- the hashes so far are those of their items
abbrev pub invariant-items : goal.invariant-items
invariant-items l = record {
  each : (i : ℕ) → i < l.item
      → slice_index l.hashes i ≡ sip (key_low l.key) (key_high l.key) (item l.bytes l.offsets i);
  shape : length l.hashes ≡ length l.fn.hashes;
}
