use Rattle.std.proofs.Common.{◌≡◌}
use Rattle.scenes.proofs.seated.threads.count_found.Given as goal

-- the pass stays of its filter
abbrev pub invariant-hashes : goal.invariant-hashes
invariant-hashes l = l.pass.filter ≡ l.initial.pass.filter
