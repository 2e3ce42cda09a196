use Rattle.std.proofs.Common.{◌+◌, arith, refl}
use Rattle.bloom_steps.proofs.StepLemmas.Driven.{set-next, set-none}
use Rattle.bloom_steps.proofs.steps.driver.set_each.Goals as goal

pub places-init : goal.places-init
places-init g c = record {
  places = 0;
  split = omega arith;
  set = set-none _ _ _ _ _ _ c.requires.hashes c.new-chain.ensures;
  words = c.num_words-num_words.ensures.value;
}

pub places-preserved : goal.places-preserved
places-preserved g c =
    let before = c.places.invariant in
    let next = c.next_place-word.ensures in
    record {
      places = before.places + 1;
      split = omega (arith, before.split, c.places-test.true);
      set =
          set-next _ _ _ _ _ _ _ before.places _ _ _ _ _ _ _ _ _ _ before.set
          (omega (arith, before.split, c.places-test.true)) before.words
          refl (next.word _ _ before.set.stands) refl (next.mask _ _ before.set.stands)
          c.step-found.ensures (c.is_set-all_on.ensures _ (next.mask _ _ before.set.stands))
          (next.moved _ _ before.set.stands);
      words = before.words;
    }
