use Rattle.bloom_engine.proofs.ServedLemmas.{IsServing}
use Rattle.bloom_engine.proofs.engine.serve_lines.Given as goal

-- some lines were taken and carried out
abbrev pub invariant-lines : goal.invariant-lines
invariant-lines g l =
    IsServing (g.R.Read.remaining l.fn.input) l.fn.filter (g.W.Write.contents l.fn.output) l.lines
    (g.R.Read.remaining l.input) l.filter (g.W.Write.contents l.output) l.number

-- some lines were taken and carried out
abbrev pub invariant-rounds : goal.invariant-rounds
invariant-rounds g l =
    IsServing (g.R.Read.remaining l.fn.input) l.fn.filter (g.W.Write.contents l.fn.output) l.lines
    (g.R.Read.remaining l.input) l.filter (g.W.Write.contents l.output) l.number
