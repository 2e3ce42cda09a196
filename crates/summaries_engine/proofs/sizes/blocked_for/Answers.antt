use Rattle.std.proofs.Common.{◌∙◌, ap, refl}
use Rattle.fastbloom.specs.BlockedSizing.{IsMadeInLinesFor, line_words_for, zero_lines_start}
use Rattle.summaries_engine.proofs.Common.{IfOk-weaker, HasSeed, IsEmpty}
use Rattle.summaries_engine.proofs.EmptyLemmas.{empty-zeros, equal-keyed}
use Rattle.summaries_engine.proofs.sizes.blocked_for.Goals as goal

-- the builder has zero words and a key
pub returns-clause-empty : goal.returns-clause-empty
returns-clause-empty c =
    IfOk-weaker c.expected_items.result (IsMadeInLinesFor c.seed.result c.args.keys) IsEmpty
    (λ f made. empty-zeros (line_words_for made.0) (zero_lines_start c.seed.result made.0) f refl
    c.seed.ensures.key (ap (λ g. g.words) made.2) (ap (λ g. g.hasher) made.2))
    c.expected_items.ensures.made

pub returns-clause-key : goal.returns-clause-key
returns-clause-key c =
    IfOk-weaker c.expected_items.result (IsMadeInLinesFor c.seed.result c.args.keys)
    (λ f. HasSeed f c.args.seed.now) (λ f made. equal-keyed made.2 c.seed.ensures.key)
    c.expected_items.ensures.made

-- and has the rate
pub returns-clause-made : goal.returns-clause-made
returns-clause-made c =
    IfOk-weaker c.expected_items.result (IsMadeInLinesFor c.seed.result c.args.keys) _
    (λ f made. (c.seed.result, c.seed.ensures.rate ∙ c.with_false_pos.ensures.rate, made))
    c.expected_items.ensures.made
