use Rattle.std.proofs.Common.{◌*◌, ◌/◌, ◌%◌, ◌^◌, ◌∙◌, ap}
use Rattle.bloom_parts.specs.Content.{index_of}
use Rattle.bloom_parts.proofs.slices.one_bit.next_place.Goals as goal

pub returns-clause-word : goal.returns-clause-word
returns-clause-word c = λ hash i at.
    c.word_and_mask_of_hash.ensures.word
    ∙ ap (λ h. index_of (64 * c.args.words) h / 64) (c.next.ensures.value hash i at)

pub returns-clause-mask : goal.returns-clause-mask
returns-clause-mask c = λ hash i at.
    c.word_and_mask_of_hash.ensures.mask
    ∙ ap (λ h. 2 ^ (index_of (64 * c.args.words) h % 64)) (c.next.ensures.value hash i at)
