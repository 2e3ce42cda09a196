use Rattle.std.proofs.Common.{◌*◌, length, ap, sym, ◌∙◌}
use Rattle.bloom_parts.specs.Content.{content, index_of}
use Rattle.bloom_parts.proofs.StretchLemmas.{are_in_from-one}
use Rattle.bloom_parts.proofs.slices.positions.next_is_on.Goals as goal

pub returns-clause-found : goal.returns-clause-found
returns-clause-found c = λ hash i at.
    let n = 64 * length c.args.words.now in
    c.check_hash.ensures
    ∙ ap (λ h. content c.args.words.now (index_of n h)) (c.next.ensures.value hash i at)
    ∙ sym (are_in_from-one n i hash (content c.args.words.now))
