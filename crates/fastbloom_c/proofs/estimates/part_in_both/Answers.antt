use Rattle.fastbloom_c.proofs.SameBitsLemmas.{same-bits}
use Rattle.fastbloom_c.proofs.estimates.part_in_both.Goals as goal

pub returns : goal.returns
returns c = record {
  first = c.items_in-first.result;
  second = c.items_in-second.result;
  all = c.items_in_either-all.result;
  common = c.estimated_common.result;
  each = record {
    of_first = c.items_in-first.ensures;
    of_second = same-bits c.requires.lengths c.items_in-second.ensures;
    of_all = c.items_in_either-all.ensures;
  };
  is_common = c.estimated_common.ensures;
  is_part = c.estimated_part.ensures;
}
