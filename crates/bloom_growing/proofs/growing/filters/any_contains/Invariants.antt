use Rattle.std.proofs.Common.{◌≡◌, false, map, take}
use Rattle.bloom_growing.specs.Growing.{any_contains}
use Rattle.bloom_growing.proofs.growing.filters.any_contains.Given as goal

-- no filter so far contains the hash
abbrev pub invariant-filters : goal.invariant-filters
invariant-filters g l =
    any_contains g.F.GrowableFilter.kind
    (map g.F.GrowableFilter.seen (take l.filter-index l.filters)) l.hash ≡ false
