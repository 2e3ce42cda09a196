use Rattle.std.proofs.Common.{arith}
use Rattle.bloom_parts.proofs.ContentLemmas.{content-test}
use Rattle.bloom_parts.proofs.bit_vector.BitVec.check.Goals as goal

pub returns : goal.returns
returns c =
    let at = c.word_and_mask-word.ensures in
    content-test _ _ c.self.view_is _ _ _ c.args.position at.word at.mask c.index.ensures
    (omega (arith, c.requires, at.word)) (c.is_set.ensures _ at.mask)
