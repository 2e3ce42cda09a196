use Rattle.std.proofs.Common.{◌≡◌, take}
use Rattle.examples.specs.Known.{KnowsAll}
use Rattle.examples.proofs.two.insert_all.Given as goal

-- the pass knows the hashes so far
abbrev pub invariant-hashes : goal.invariant-hashes
invariant-hashes l = (l.pass.filter ≡ l.initial.pass.filter)
    × KnowsAll l.filter l.pass (take l.i l.hashes.items)
