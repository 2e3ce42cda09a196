use Rattle.std.proofs.Common.{◌∙◌, ap}
use Rattle.bloom_parts.specs.Content.{content}
use Rattle.bloom_parts.proofs.SetLemmas.{content-zeros}
use Rattle.bloom_parts.proofs.slices.clear.Goals as goal

pub returns-clause-content : goal.returns-clause-content
returns-clause-content c = λ p.
    ap (λ words. content words p) c.clear_words.ensures.words ∙ content-zeros _ p
