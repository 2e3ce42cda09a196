use Rattle.std.proofs.Common.{arith, refl, ◌∙◌}
use Rattle.std.proofs.lemmas.List.{length-set}
use Rattle.summaries_engine.proofs.BatchLemmas.{cut-fewer, hashes-more, hashes-none}
use Rattle.summaries_engine.proofs.waiting.hash_first.Goals as goal

-- no key yet
pub keys-init : goal.keys-init
keys-init g c = record {
  few = omega arith;
  room = refl;
  within = omega arith;
  hashed = λ k0 k1 has. hashes-none k0 k1 g.row.END c.args.bytes.now;
}

-- one key more
pub keys-preserved : goal.keys-preserved
keys-preserved g c =
    let so_far = c.keys.invariant in
    let same = length-set c.keys.hashes c.keys.count c.hash_of.result in record {
      few = omega (arith, same, c.keys-test.true);
      room = same ∙ so_far.room;
      within = omega (arith, so_far.within, cut-fewer c.in-Some.ensures);
      hashed = λ k0 k1 has.
          hashes-more c.keys.hashes c.keys.count (so_far.hashed k0 k1 has) c.in-Some.ensures
          c.keys-test.true c.hash_of.result (c.hash_of.ensures k0 k1 has);
    }
