use Rattle.std.proofs.Common.{◌≡◌, ◌≤◌, ℕ, None, slice_index_or, length, vec_len, vec_capacity}
use Rattle.bloom_steps.proofs.steps.runner.prepare.Given as goal

-- this many parties have a slot, and none has a machine
abbrev pub invariant-parties : goal.invariant-parties
invariant-parties l = record {
  count : length l.machines.items ≡ l._party;
  none : (p : ℕ) → slice_index_or l.machines.items p None ≡ None;
  len : vec_len l.machines ≡ l._party;
  room : l.fn.parties ≤ vec_capacity l.machines;
}
