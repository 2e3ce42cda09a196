use Rattle.bloom_steps.proofs.steps.machine.is_on.Goals as goal

pub returns : goal.returns
returns c = c.is_set.ensures _ c.word_and_mask-word.ensures.mask
