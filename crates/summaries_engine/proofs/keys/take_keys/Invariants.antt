use Rattle.std.proofs.Common.{◌-◌, ◌^◌}
use Rattle.summaries_engine.specs.Fillers.{TakesKeys}
use Rattle.summaries_engine.proofs.KeyLemmas.{HasRead}
use Rattle.summaries_engine.proofs.keys.take_keys.Given as goal

-- the keys so far were taken
abbrev pub invariant-keys : goal.invariant-keys
invariant-keys g l =
    HasRead g.row.END (g.I.Read.remaining l.fn.input) l.lines (g.I.Read.remaining l.input)
    l.number
    (TakesKeys g.F.Filler.took l.fn.key l.fn.filler l.fn.waiting.items l.filler l.waiting.items)
    × g.F.Filler.ready l.filler

-- the numbers that are left
abbrev pub decreases-keys : goal.decreases-keys
decreases-keys g l = 2 ^ 64 - 1 - l.number
