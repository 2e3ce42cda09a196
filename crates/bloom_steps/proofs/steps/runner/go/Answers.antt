use Rattle.std.proofs.Common.{◌∙◌, arith, refl, sym}
use Rattle.bloom_steps.proofs.RunLemmas.Happens.{happens-idle, happens-step, step-within}
use Rattle.bloom_steps.proofs.steps.runner.go.Goals as goal

pub make_step-found-requires : goal.make_step-found-requires
make_step-found-requires c =
    step-within _ c.args.world.now c.requires.world c.args.party (omega (arith, c.len.ensures)) _
    c.index_mut.ensures.value _ c.in-Some.is _ c.in-Some-ask.ensures.next

pub returns-in_default-ask-clause-happens : goal.returns-in_default-ask-clause-happens
returns-in_default-ask-clause-happens c =
    happens-idle _ _ c.requires.world c.args.party (omega (arith, c.len.ensures)) _
    c.index_mut.ensures.value _ c.in-Some.is _ (sym c.ask.ensures.value ∙ c.in_default-ask.is)

pub returns-clause-happens : goal.returns-clause-happens
returns-clause-happens c =
    happens-step _ _ c.requires.world c.args.party (omega (arith, c.len.ensures)) _
    c.index_mut.ensures.value _ c.in-Some.is _ _ _ _ _ _
    (sym c.ask.ensures.value ∙ c.in-Some-ask.is) c.in-Some-ask.ensures.next c.reply.ensures.next
    c.end-ended.ensures c.make_step-found.ensures refl refl c.push_reserved.ensures.items
