use Rattle.bloom_plain.proofs.OnesLemmas.{same-estimate}
use Rattle.bloom_plain.proofs.bloom.BloomFilter.estimated_common.Goals as goal

pub returns : goal.returns
returns g c = record {
  first = c.estimated_items-first.result;
  second = c.estimated_items-second.result;
  all = c.estimated_union.result;
  each = record {
    of_first = c.estimated_items-first.ensures;
    of_second = same-estimate c.requires c.estimated_items-second.ensures;
    of_all = c.estimated_union.ensures;
  };
  is = c.estimated_common.ensures;
}
