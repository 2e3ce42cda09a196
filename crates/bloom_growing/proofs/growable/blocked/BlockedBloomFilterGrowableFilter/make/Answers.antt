use Rattle.std.proofs.Common.{◌∙◌, subst}
use Rattle.std.specs.Prelude.{IfOk}
use Rattle.bloom_blocked.specs.BlockedSizing.{IsMadeInLinesFor}
use Rattle.bloom_growing.proofs.growable.blocked.BlockedBloomFilterGrowableFilter.make.Goals as goal

pub returns-clause-made : goal.returns-clause-made
returns-clause-made c =
    let builder = c.hasher-builder.ensures in
    subst (λ b. IfOk c.expected_items.result (IsMadeInLinesFor b c.args.items))
    (λ i. record {
      rate = (builder.rate ∙ c.with_false_pos.ensures.rate) i;
      hasher = builder.hasher i;
    })
    c.expected_items.ensures.made
