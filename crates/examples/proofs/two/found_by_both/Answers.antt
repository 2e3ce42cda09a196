use Rattle.std.proofs.Common.{◌∙◌}
use Rattle.examples.proofs.KnownLemmas.{promised, sure-after}
use Rattle.examples.proofs.two.found_by_both.Goals as goal

-- each pass that came back knows what its thread inserted, and they met
pub returns : goal.returns
returns g c = record {
  found = λ there.
      let kept = c.in_ok-shared.ensures.ok in
      let one = c.in_ok-one.ensures in
      let two = c.in_ok-two.ensures in
      let both = sure-after c.args.filter _ _ _ _ _ _ _ _ c.args.asked
      (promised _ _ c.join-first.result _ _ (one.filter ∙ kept) one.hashes c.join-first.ensures.1)
      (promised _ _ c.join-second.result _ _ (two.filter ∙ kept) two.hashes c.join-second.ensures.1)
      c.meet.ensures (c.deref-2.ensures ∙ kept) (c.deref-3.ensures ∙ kept) there in
      (c.contains_hash_as-found.ensures.sure both.0, c.insert_hash_as-inserted.ensures.sure both.1);
}
