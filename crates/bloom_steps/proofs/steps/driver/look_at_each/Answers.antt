use Rattle.std.proofs.Common.{refl}
use Rattle.bloom_steps.proofs.StepLemmas.Driven.{look-next, look-off}
use Rattle.bloom_steps.proofs.steps.driver.look_at_each.Goals as goal

pub returns-then-not-is_set-clause-script : goal.returns-then-not-is_set-clause-script
returns-then-not-is_set-clause-script g c =
    let before = c.places.invariant in
    let next = c.next_place-word.ensures in
    look-off _ _ _ _ _ _ _ _ _ _ _ _ _ _ before.gone c.places-test.true before.words
    refl (next.word _ _ before.stands) refl c.step-found.ensures
    (c.is_set.ensures _ (next.mask _ _ before.stands)) c.if-not-is_set.true

pub places-preserved : goal.places-preserved
places-preserved g c =
    let before = c.places.invariant in
    let next = c.next_place-word.ensures in
    record {
      stands = next.moved _ _ before.stands;
      gone =
          look-next _ _ _ _ _ _ _ _ _ _ _ _ _ _ before.gone c.places-test.true before.words
          refl (next.word _ _ before.stands) refl c.step-found.ensures
          (c.is_set.ensures _ (next.mask _ _ before.stands)) c.if-not-is_set.false;
      words = before.words;
    }
