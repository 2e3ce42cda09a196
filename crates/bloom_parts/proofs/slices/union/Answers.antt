use Rattle.std.proofs.Common.{◌∙◌, ap}
use Rattle.bloom_parts.specs.Content.{content}
use Rattle.bloom_parts.proofs.SetLemmas.{content-or}
use Rattle.bloom_parts.proofs.slices.union.Goals as goal

pub returns-clause-content : goal.returns-clause-content
returns-clause-content c = λ p.
    ap (λ words. content words p) c.or_words.ensures.words
    ∙ content-or c.args.words.now c.args.other.now c.requires p
