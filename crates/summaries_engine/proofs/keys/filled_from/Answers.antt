use Rattle.std.proofs.Common.{◌≡◌, ◌≤◌, ◌++◌, ◌∙◌, ap, Err, inl, inr, length, map, rules, sym}
use Rattle.summaries_engine.proofs.Common.{joined, map-append, sip}
use Rattle.summaries_engine.proofs.FillerLemmas.{taken-all}
use Rattle.summaries_engine.proofs.InputLemmas.{inputs-all, inputs-more, stops-at}
use Rattle.summaries_engine.proofs.keys.filled_from.Goals as goal

-- an input isn't had
pub returns-in_err-input-clause-stops : goal.returns-in_err-input-clause-stops
returns-in_err-input-clause-stops g c =
    let is : c.from_residual.result ≡ Err c.in_err-input.field-0.0 = search rules in
    rw is
    (stops-at c.args.names.now c.names.name-index _ c.names-test.true c.names.invariant.0.1
    (inl c.in_err-input.ensures.failed))

-- an input's keys aren't all taken
pub returns-in_err-take_keys-clause-stops : goal.returns-in_err-take_keys-clause-stops
returns-in_err-take_keys-clause-stops g c =
    let is : c.from_residual-in_err-take_keys.result ≡ Err c.in_err-take_keys.field-0.0 =
    search rules in
    rw is
    (stops-at c.args.names.now c.names.name-index _ c.names-test.true c.names.invariant.0.1
    (inr (_, c.in_ok-input.ensures.opened, c.in_err-take_keys.ensures.stops)))

-- behind the last input none waits
pub returns-clause-all : goal.returns-clause-all
returns-clause-all g c =
    let so_far = c.names.invariant.0 in
    let last : length c.args.names.now ≤ c.names.name-index = search rules in (
      so_far.0,
      inputs-all c.args.names.now c.names.name-index last so_far.1,
      taken-all g.F.Filler.took c.args.empty c.give.new.filler so_far.0
          (c.give.ensures.taken c.args.empty so_far.0 so_far.2),
    )

-- one input more
pub names-preserved : goal.names-preserved
names-preserved g c =
    let so_far = c.names.invariant.0 in
    let all = c.in_ok-take_keys.ensures.all in
    let hash = sip c.args.key.0 c.args.key.1 in (
      (
        so_far.0 ++ map hash all.keys,
        inputs-more c.args.names.now c.names.name-index _ c.names-test.true so_far.1
            c.in_ok-input.ensures.opened all
            (ap (λ l. l ++ map hash all.keys) so_far.1.done
            ∙ sym (map-append hash (joined so_far.1.parts) all.keys)),
        all.done.taken c.args.empty so_far.0 so_far.2,
      ),
      c.in_ok-take_keys.ensures.ready,
    )
