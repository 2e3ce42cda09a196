use Rattle.bloom_steps.proofs.RunLemmas.Follows.{run-first, run-next}
use Rattle.bloom_steps.proofs.RunLemmas.Told.{tells_all}
use Rattle.bloom_steps.proofs.steps.runner.run.Goals as goal

pub events-init : goal.events-init
events-init c =
    let made = c.in_ok-world.ensures in
    run-first _ _ _ c.args.schedule.now _ made.world made.parties made.start made.records made.len
    made.room

pub events-preserved : goal.events-preserved
events-preserved c =
    run-next _ _ _ _ _ _ _ _ c.events-test.true c.events.invariant c.happen.ensures

pub returns : goal.returns
returns c =
    tells_all _ _ _ _ _ _ c.events.invariant c.events-test.false c.requires.some_words
    c.requires.hashes _ c.from_parts.ensures
