use Rattle.bloom_steps.proofs.StepLemmas.Writing.{memory_law}
use Rattle.bloom_steps.proofs.laws.steps_in_memory.Goals as goal

pub returns : goal.returns
returns c = memory_law
