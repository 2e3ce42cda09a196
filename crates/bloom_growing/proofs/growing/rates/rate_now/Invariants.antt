use Rattle.std.proofs.Common.{take, map}
use Rattle.bloom_growing.specs.GrowingRates.{BoundsAny, part_now}
use Rattle.bloom_growing.proofs.growing.rates.rate_now.Given as goal

-- the rate so far is that of the filters so far
abbrev pub invariant-filters : goal.invariant-filters
invariant-filters l = BoundsAny (map part_now (take l.filter-index l.filters)) l.rate
