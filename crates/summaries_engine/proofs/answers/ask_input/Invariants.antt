use Rattle.std.proofs.Common.{◌-◌, ◌^◌}
use Rattle.summaries_engine.proofs.Common.{WritesWanted}
use Rattle.summaries_engine.proofs.KeyLemmas.{HasRead}
use Rattle.summaries_engine.proofs.answers.ask_input.Given as goal

-- the keys so far were answered
abbrev pub invariant-keys : goal.invariant-keys
invariant-keys g l =
    HasRead g.row.END (g.I.Read.remaining l.fn.input) l.lines (g.I.Read.remaining l.input)
    l.number
    (WritesWanted l.filter l.wanted g.row.END (g.O.Write.contents l.fn.output)
    (g.O.Write.contents l.output))

-- the numbers that are left
abbrev pub decreases-keys : goal.decreases-keys
decreases-keys g l = 2 ^ 64 - 1 - l.number
