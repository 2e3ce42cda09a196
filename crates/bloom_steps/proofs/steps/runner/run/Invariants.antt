use Rattle.bloom_steps.proofs.RunLemmas.Follows.{HasRun}
use Rattle.bloom_steps.proofs.steps.runner.run.Given as goal

-- the events so far have happened, and there is room for a record of each that is left
abbrev pub invariant-events : goal.invariant-events
invariant-events l =
    HasRun l.num_hashes l.fn.parties l.fn.words l.schedule l.event-index l.world
