use Rattle.std.proofs.Common.{◌≡◌, ◌*◌}
use Rattle.fastbloom.proofs.Common.{IsAt, Looks, GrowsBeside, sight_of, Pass}
use Rattle.fastbloom.proofs.seated.looks.find_positions.Given as goal

-- the places so far were found set
abbrev pub invariant-places : goal.invariant-places
invariant-places l = IsAt l.fn.hash l.counter l.chain
    × (l.seat.me.0.role ≡ Pass)
    × Looks (64 * l.table.shared.table_id.words) l.fn.hash l.counter
    (sight_of l.initial.seat) (sight_of l.seat)
    × GrowsBeside (64 * l.table.shared.table_id.words) l.fn.hash l.counter
    (sight_of l.initial.seat) (sight_of l.seat)
