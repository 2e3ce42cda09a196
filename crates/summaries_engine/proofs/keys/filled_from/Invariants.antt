use Rattle.std.proofs.Common.{ℕ, List, map, take}
use Rattle.summaries_engine.proofs.Common.{HasTaken, HashesInputs}
use Rattle.summaries_engine.proofs.keys.filled_from.Given as goal

-- of the hashes of the inputs so far some were taken, and the others wait
abbrev pub invariant-names : goal.invariant-names
invariant-names g l =
    ((hashes : List ℕ)
    × HashesInputs (g.S.Inputs.has l.inputs) l.key g.row.END
    (take l.name-index (map (λ name. name.now) l.names)) hashes
    × HasTaken g.F.Filler.took l.fn.empty l.filler l.waiting.items hashes)
    × g.F.Filler.ready l.filler
