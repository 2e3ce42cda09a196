use Rattle.std.proofs.Common.{◌∙◌}
use Rattle.summaries_engine.proofs.EmptyLemmas.{empty-zeros}
use Rattle.summaries_engine.proofs.sizes.blocked_with_bits.Goals as goal

-- the builder has zero words and a key
pub returns-clause-empty : goal.returns-clause-empty
returns-clause-empty c =
    empty-zeros _ c.seed.result _ (c.seed.ensures.words ∙ c.in_ok-builder.ensures.words)
    c.seed.ensures.key c.hashes.ensures.words c.hashes.ensures.hasher
