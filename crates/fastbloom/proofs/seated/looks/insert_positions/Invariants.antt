use Rattle.std.proofs.Common.{◌≡◌, ◌*◌}
use Rattle.fastbloom.proofs.Common.{IsAt, positions, InsertsAs, sight_of, Pass}
use Rattle.fastbloom.proofs.seated.looks.insert_positions.Given as goal

-- the places so far were set
abbrev pub invariant-places : goal.invariant-places
invariant-places l = IsAt l.fn.hash l.counter l.chain
    × (l.seat.me.0.role ≡ Pass)
    × InsertsAs (positions (64 * l.table.shared.table_id.words) l.counter l.fn.hash)
    (sight_of l.initial.seat) (sight_of l.seat) l.all_set
