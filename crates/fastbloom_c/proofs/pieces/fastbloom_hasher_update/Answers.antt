use Rattle.bloom_parts.proofs.PublishedLemmas.{AreBytes-append}
use Rattle.fastbloom_c.proofs.pieces.fastbloom_hasher_update.Goals as goal

pub returns : goal.returns
returns c = record {
  taken = λ k0 k1 before is.
      c.to_words.ensures.words k0 k1 _
      (AreBytes-append before c.args.bytes.now is.small (λ i. (c.type_inv.bytes i).fits))
      (c.write.ensures.taken k0 k1 before (c.from_words-resumed.ensures.hasher k0 k1 before is));
}
