use Rattle.std.proofs.Common.{rules}
use Rattle.bloom_steps.proofs.StepLemmas.Asking.{asks_right}
use Rattle.bloom_steps.proofs.steps.machine.Machine.ask.Goals as goal

pub returns-then-self-clause-next : goal.returns-then-self-clause-next
returns-then-self-clause-next c = asks_right c.args.self.now _ (search rules)

pub returns-in-Insert-clause-next : goal.returns-in-Insert-clause-next
returns-in-Insert-clause-next c = asks_right c.args.self.now _ (search rules)

pub returns-in-Contains-clause-next : goal.returns-in-Contains-clause-next
returns-in-Contains-clause-next c = asks_right c.args.self.now _ (search rules)

pub returns-in-Clear-clause-next : goal.returns-in-Clear-clause-next
returns-in-Clear-clause-next c = asks_right c.args.self.now _ (search rules)

pub returns-in-Union-clause-next : goal.returns-in-Union-clause-next
returns-in-Union-clause-next c = asks_right c.args.self.now _ (search rules)

pub returns-in-Intersect-clause-next : goal.returns-in-Intersect-clause-next
returns-in-Intersect-clause-next c = asks_right c.args.self.now _ (search rules)

pub returns-in-Take-clause-next : goal.returns-in-Take-clause-next
returns-in-Take-clause-next c = asks_right c.args.self.now _ (search rules)
