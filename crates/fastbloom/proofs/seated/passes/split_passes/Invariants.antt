use Rattle.std.proofs.Common.{◌≡◌, ◌+◌, ◌≤◌, All, vec_len, vec_capacity}
use Rattle.fastbloom.proofs.Common.{IsFresh, IsNewPass}
use Rattle.fastbloom.proofs.seated.passes.split_passes.Given as goal

-- the seat stands for the passes that are still to come, itself among them
abbrev pub invariant-passes : goal.invariant-passes
invariant-passes l = (l.seat.table_id ≡ l.initial.seat.table_id)
    × (l.seat.me.0.start ≡ l.initial.seat.me.0.start)
    × IsFresh l.seat.me.0
    × (l.seat.me.0.passes + vec_len l.all ≡ l.passes)
    × (vec_len l.all + 1 ≡ l.counter)
    × (l.passes ≤ vec_capacity l.all)
    × All (IsNewPass l.initial.seat.table_id l.initial.seat.me.0.start) l.all.items
