use Rattle.std.proofs.Common.{◌≡◌}
use Rattle.scenes.proofs.seated.answers.Given as goal

-- the pass stays of its filter
abbrev pub invariant-calls : goal.invariant-calls
invariant-calls l = l.pass.filter ≡ l.initial.pass.filter
