use Rattle.std.proofs.Common.{◌∙◌, sym}
use Rattle.bloom_blocked.proofs.SpanLemmas.{span-set}
use Rattle.bloom_blocked.proofs.line.set_in_turn.Goals as goal

pub returns : goal.returns
returns g c =
    let store = c.new-store.ensures in
    let all = c.len.ensures.value in
    let set =
    span-set _ _ _ _ _ _ _ _ store.words store.other store.start
    (rw (all) at c.line_start.ensures.start) c.masks_of-masks.ensures.bits
    c.set_masks-all_set.ensures.script in
    record {
      did = set.did;
      begins = set.begins ∙ store.turn ∙ c.replace-first.ensures.value;
      ends = set.ends ∙ sym c.into_turn.ensures;
    }
