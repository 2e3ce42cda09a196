use Rattle.std.proofs.Common.{◌≡◌}
use Rattle.bench.proofs.seated.Seat.insert_keys.Given as goal

-- the pass still belongs to its filter
abbrev pub invariant-keys : goal.invariant-keys
invariant-keys l = l.pass.filter ≡ l.initial.pass.filter
