use Rattle.std.proofs.Common.{◌≡◌}
use Rattle.examples.proofs.seated.insert_hashes.Given as goal

-- the pass stays of its filter
abbrev pub invariant-hashes : goal.invariant-hashes
invariant-hashes l = l.pass.filter ≡ l.initial.pass.filter
