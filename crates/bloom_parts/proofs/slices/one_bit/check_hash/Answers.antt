use Rattle.std.proofs.Common.{refl}
use Rattle.bloom_parts.proofs.ContentLemmas.{content-test, get_or-itself}
use Rattle.bloom_parts.proofs.slices.one_bit.check_hash.Goals as goal

pub returns : goal.returns
returns c =
    let at = c.word_and_mask_of_hash-word.ensures in
    let within = at.range c.requires in
    content-test _ c.args.words.now refl _ _ _ _ at.word at.mask (get_or-itself _ _ within) within
    (c.is_set.ensures _ at.mask)
