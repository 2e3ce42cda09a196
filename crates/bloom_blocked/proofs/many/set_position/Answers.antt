use Rattle.std.proofs.Common.{refl}
use Rattle.bloom_parts.proofs.PublishedLemmas.{content-set, get_or-itself}
use Rattle.bloom_blocked.proofs.many.set_position.Goals as goal

pub returns-clause-content : goal.returns-clause-content
returns-clause-content c =
    let at = c.word_and_mask_of_hash-word.ensures in
    let within = at.range c.requires in
    content-set c.args.words.now c.args.words.now refl _ _ _ _ at.word at.mask
    (get_or-itself _ _ within) within
