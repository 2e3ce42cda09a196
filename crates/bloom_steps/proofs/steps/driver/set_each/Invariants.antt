use Rattle.std.proofs.Common.{◌≡◌, ◌+◌, ℕ}
use Rattle.bloom_steps.proofs.StepLemmas.Driven.{HasSet}
use Rattle.bloom_steps.proofs.steps.driver.set_each.Given as goal

-- the places so far were set, each by a step
abbrev pub invariant-places : goal.invariant-places
invariant-places g l = record {
  places : ℕ;
  split : places + l.left ≡ l.fn.num_hashes;
  set : HasSet g.W.WordStore.count g.W.WordStore.moved l.fn.num_hashes l.fn.hash
      l.fn.store l.store places l.all_on l.chain;
  words : l.num_words ≡ g.W.WordStore.count l.fn.store;
}

abbrev pub decreases-places : goal.decreases-places
decreases-places g l = l.left
