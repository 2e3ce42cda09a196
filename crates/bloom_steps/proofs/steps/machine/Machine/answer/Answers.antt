use Rattle.std.proofs.Common.{rules}
use Rattle.bloom_steps.proofs.StepLemmas.Asking.{answers_right}
use Rattle.bloom_steps.proofs.steps.machine.Machine.answer.Goals as goal

pub returns-in-Contains-clause-said : goal.returns-in-Contains-clause-said
returns-in-Contains-clause-said c = answers_right c.args.self.now _ (search rules)
