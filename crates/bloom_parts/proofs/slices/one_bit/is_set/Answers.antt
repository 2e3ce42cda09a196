use Rattle.std.proofs.Common.{ltb, bit_and, ap, ◌∙◌}
use Rattle.bloom_parts.proofs.ContentLemmas.{test-bit}
use Rattle.bloom_parts.proofs.slices.one_bit.is_set.Goals as goal

pub returns : goal.returns
returns c = λ bit alone.
    ap (λ mask. ltb 0 (bit_and c.args.word mask)) alone ∙ test-bit c.args.word bit
