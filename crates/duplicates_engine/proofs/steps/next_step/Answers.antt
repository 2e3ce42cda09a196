use Rattle.duplicates_engine.proofs.AheadLemmas.{takes-waiting}
use Rattle.duplicates_engine.proofs.steps.next_step.Goals as goal

pub returns-then-take_waiting-clause-step : goal.returns-then-take_waiting-clause-step
returns-then-take_waiting-clause-step g c =
    takes-waiting _ _ c.requires.limit (c.take_waiting.ensures.taken c.if-take_waiting.true).1
    (c.take_waiting.ensures.number c.if-take_waiting.true)

pub returns-in-Some-clause-step : goal.returns-in-Some-clause-step
returns-in-Some-clause-step g c =
    takes-waiting _ _ c.requires.limit c.take_line.ensures.taken c.take_line.ensures.number
