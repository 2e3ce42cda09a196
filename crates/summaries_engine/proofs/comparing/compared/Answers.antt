use Rattle.std.proofs.Common.{string_bytes}
use Rattle.summaries_engine.proofs.Common.{IfOk-weaker, TellsBoth}
use Rattle.summaries_engine.proofs.comparing.compared.Goals as goal

-- the lines are those of estimates of the two filters, which have one shape
pub returns : goal.returns
returns c =
    IfOk-weaker _ _
    (λ text. TellsBoth c.args.first.now c.args.second.now (string_bytes text)) (λ text is. record {
      first = c.estimated_items-one.result;
      second = c.estimated_items-other.result;
      all = c.estimated_union-all.result;
      common = c.estimated_common-common.result;
      part = c.estimated_part.result;
      each = record {
        of_first = c.estimated_items-one.ensures;
        of_second = rw (c.requires.words, c.requires.hashes) c.estimated_items-other.ensures;
        of_all = c.estimated_union-all.ensures;
      };
      is_common = c.estimated_common-common.ensures;
      is_part = c.estimated_part.ensures;
      is = is;
    }) c.lines_of.ensures
