use Rattle.std.proofs.Common.{eqb, refl, ap, ◌∙◌}
use Rattle.bloom_parts.proofs.ContentLemmas.{content-change, content-set, get_or-itself, no-change}
use Rattle.bloom_parts.proofs.slices.one_bit.set_hash.Goals as goal

pub returns-clause-changed : goal.returns-clause-changed
returns-clause-changed c =
    let at = c.word_and_mask_of_hash-word.ensures in
    let within = at.range c.requires in
    content-change _ c.args.words.now refl _ _ _ _ at.word at.mask (get_or-itself _ _ within) within

pub returns-clause-reply : goal.returns-clause-reply
returns-clause-reply c = ap (λ n. eqb n 0) (returns-clause-changed c) ∙ no-change _ _

pub returns-clause-content : goal.returns-clause-content
returns-clause-content c =
    let at = c.word_and_mask_of_hash-word.ensures in
    let within = at.range c.requires in
    content-set _ c.args.words.now refl _ _ _ _ at.word at.mask (get_or-itself _ _ within) within
