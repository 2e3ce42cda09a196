use Rattle.std.proofs.Common.{◌≡◌, ◌≤◌, ◌-◌, ℕ, length, take}
use Rattle.summaries_engine.proofs.Common.{HasKey, HashesFirst}
use Rattle.summaries_engine.proofs.waiting.hash_first.Given as goal

-- the keys so far were hashed
abbrev pub invariant-keys : goal.invariant-keys
invariant-keys g l = record {
  few : l.count ≤ length l.hashes;
  room : length l.hashes ≡ length l.fn.hashes;
  within : length l.rest ≤ length l.bytes;
  hashed : (k0 k1 : ℕ) → HasKey l.builder k0 k1
      → HashesFirst k0 k1 g.row.END l.bytes l.rest (take l.count l.hashes);
}

-- the room that is left
abbrev pub decreases-keys : goal.decreases-keys
decreases-keys g l = length l.initial.hashes - l.count
