use Rattle.std.proofs.Common.{◌∙◌}
use Rattle.bloom_parts.proofs.AlikeLemmas.{low-holds, high-holds, part-ordered}
use Rattle.bloom_parts.proofs.math.alike.estimated_part.Goals as goal

-- the bounds are ordered
pub new-requires-clause-ordered : goal.new-requires-clause-ordered
new-requires-clause-ordered c =
    let some = c.args.some in
    let all = c.args.all in
    rw (
      c.lower_part-low.ensures.value,
      c.upper_part.ensures.value,
      c.low.ensures,
      c.high.ensures,
      c.high-2.ensures,
      c.low-2.ensures,
    )
    (part-ordered some.low all.low some.high all.high some.ordered all.ordered)

-- the part lies between them
pub returns : goal.returns
returns c =
    let low = rw (c.low.ensures, c.high.ensures) at c.lower_part-low.ensures.value in
    let high = rw (c.high-2.ensures, c.low-2.ensures) at c.upper_part.ensures.value in
    let low_is = c.new.ensures.low ∙ low in
    let high_is = c.new.ensures.high ∙ high in
    record {
      holds = λ m n part all some within. record {
        at_least =
            rw low_is (low-holds c.args.some.low m n c.args.all.high part.at_least all.at_most);
        at_most =
            rw high_is
            (high-holds c.args.all.low m n c.args.some.high all.at_least within part.at_most);
      };
      low = low_is;
      high = high_is;
    }
