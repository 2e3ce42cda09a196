use Rattle.std.proofs.Common.{ℕ, ◌+◌, ◌<◌, ◌≤◌, slice_index}
use Rattle.fastbloom_c.proofs.items.are_offsets.Given as goal

-- the items up to this one end no earlier than they begin, and within the bytes
abbrev pub invariant-items : goal.invariant-items
invariant-items l = (i : ℕ) → i + 1 < l.end
    → (slice_index l.offsets i ≤ slice_index l.offsets (i + 1))
    × (slice_index l.offsets (i + 1) ≤ l.len)
