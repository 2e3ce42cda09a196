use Rattle.std.proofs.Common.{sym, ◌∙◌}
use Rattle.bloom_growing.proofs.KindLemmas.{any-at}
use Rattle.bloom_growing.proofs.growing.filters.any_contains.Goals as goal

pub returns-then-contains_hash : goal.returns-then-contains_hash
returns-then-contains_hash g c =
    sym (any-at g.F.GrowableFilter.kind g.F.GrowableFilter.seen c.args.filters.now
    c.filters.filter-index c.filter-item.result c.args.hash c.filters-test.true c.filter-item.is
    (sym c.contains_hash.ensures ∙ c.if-contains_hash.true))
