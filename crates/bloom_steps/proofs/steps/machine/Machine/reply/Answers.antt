use Rattle.std.proofs.Common.{arith, rules}
use Rattle.std.proofs.lemmas.Grind.{common_steps}
use Rattle.bloom_steps.proofs.StepLemmas.Replying.{stands_further}
use Rattle.bloom_steps.proofs.steps.machine.Machine.reply.Goals as goal
use Rattle.bloom_steps.proofs.steps.machine.Machine.reply.Goals.{in-Insert, in-Contains, in-Clear, in-Union, in-Intersect, in-Take}

pub returns-clause-next : goal.returns-clause-next
returns-clause-next c =
    stands_further c.args.self.now _ c.args.found (elim c.match-self.branch [
      | in-Insert w ↦ search rules
      | in-Contains w ↦ grind (arith, common_steps)
      | in-Clear w ↦ search rules
      | in-Union w ↦ search rules
      | in-Intersect w ↦ search rules
      | in-Take w ↦ search rules
    ])
