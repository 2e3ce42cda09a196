use Rattle.std.proofs.Common.{◌≡◌, Err, inl, inr, rules}
use Rattle.summaries_engine.proofs.AskingLemmas.{writes-more}
use Rattle.summaries_engine.proofs.InputLemmas.{inputs-more, stops-after, stops-at}
use Rattle.summaries_engine.proofs.answers.ask.Goals as goal

-- an input isn't had
pub returns-in_err-input-clause-stops : goal.returns-in_err-input-clause-stops
returns-in_err-input-clause-stops g c =
    let is : c.from_residual.result ≡ Err c.in_err-input.field-0.0 = search rules in
    rw is
    (stops-at c.args.names.now c.names.name-index _ c.names-test.true c.names.invariant
    (inl (c.in_err-input.ensures.failed, c.names.invariant.done)))

-- asking stops within an input
pub returns-in_err-ask_input-clause-stops : goal.returns-in_err-ask_input-clause-stops
returns-in_err-ask_input-clause-stops g c =
    let cut = c.in_err-ask_input in
    let is : c.from_residual-in_err-ask_input.result ≡ Err cut.field-0.0 = search rules in
    rw is
    (stops-at c.args.names.now c.names.name-index _ c.names-test.true c.names.invariant
    (inr (
      _,
      c.in_ok-input.ensures.opened,
      stops-after _ cut.field-0.0 c.names.invariant.done
          cut.ensures.stops,
    )))

-- one input more
pub names-preserved : goal.names-preserved
names-preserved g c =
    let all = c.in_ok-ask_input.ensures.all in
    inputs-more c.args.names.now c.names.name-index _ c.names-test.true c.names.invariant
    c.in_ok-input.ensures.opened all (writes-more c.names.invariant.done all.done)
