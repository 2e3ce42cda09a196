use Rattle.std.proofs.Common.{◌≡◌, true, Some}
use Rattle.bloom_steps.proofs.Common.{IsAt, LooksAt}
use Rattle.bloom_steps.proofs.StepLemmas.Driving.{HasGone, KeepsNothing}
use Rattle.bloom_steps.proofs.steps.driver.look_at_each.Given as goal

-- the places so far were found set, each by a step
abbrev pub invariant-places : goal.invariant-places
invariant-places g l = record {
  stands : IsAt l.fn.hash l._place l.chain;
  gone : HasGone g.W.WordStore.count g.W.WordStore.moved l.fn.num_hashes (LooksAt l.fn.hash)
      KeepsNothing l.fn.store l.store l._place (Some true);
  words : l.num_words ≡ g.W.WordStore.count l.fn.store;
}
