use Rattle.std.proofs.Common.{◌∙◌, arith, refl, sym}
use Rattle.bloom_steps.proofs.RunLemmas.Happens.{happens-begun, happens-busy}
use Rattle.bloom_steps.proofs.steps.runner.begin.Goals as goal

-- a party that runs a call begins none
pub returns-then-runs_call-clause-happens : goal.returns-then-runs_call-clause-happens
returns-then-runs_call-clause-happens c =
    happens-busy _ _ c.requires.world c.args.party (omega (arith, c.len.ensures)) _ c.index.ensures
    c.args.call (sym c.runs_call.ensures ∙ c.if-runs_call.true)

-- a party that runs no call begins one
pub returns-clause-happens : goal.returns-clause-happens
returns-clause-happens c =
    happens-begun _ _ c.requires.world c.args.party (omega (arith, c.len.ensures)) _ c.index.ensures
    c.args.call _ _ _ (sym c.runs_call.ensures ∙ c.if-runs_call.false) c.len-2.ensures
    c.new-machine.ensures refl refl refl c.push_reserved.ensures.items
