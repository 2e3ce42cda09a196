use Rattle.std.proofs.Common.{arith}
use Rattle.bloom_parts.proofs.ContentLemmas.{content-test, content-set}
use Rattle.bloom_parts.proofs.bit_vector.BitVec.set.Goals as goal

pub returns-clause-reply : goal.returns-clause-reply
returns-clause-reply c =
    let at = c.word_and_mask-word.ensures in
    content-test _ _ c.self.view_is _ _ _ c.args.position at.word at.mask c.index.ensures
    (omega (arith, c.requires, at.word)) (c.is_set-was_on.ensures _ at.mask)

pub returns-clause-content : goal.returns-clause-content
returns-clause-content c =
    let at = c.word_and_mask-word.ensures in
    content-set _ _ c.self.view_is _ _ _ c.args.position at.word at.mask
    c.index_mut.ensures.value (omega (arith, c.requires, at.word))
