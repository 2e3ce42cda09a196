use Rattle.std.proofs.Common.{map, take}
use Rattle.summaries_engine.specs.Inputs.{AnswersInputs}
use Rattle.summaries_engine.proofs.answers.ask.Given as goal

-- the inputs so far were answered
abbrev pub invariant-names : goal.invariant-names
invariant-names g l =
    AnswersInputs (g.S.Inputs.has l.inputs) l.filter l.wanted g.row.END
    (take l.name-index (map (λ name. name.now) l.names)) (g.O.Write.contents l.fn.output)
    (g.O.Write.contents l.output)
