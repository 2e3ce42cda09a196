use Rattle.std.proofs.Common.{take}
use Rattle.bloom_growing.proofs.GrowingRateLemmas.{FullSoFar}
use Rattle.bloom_growing.proofs.growing.rates.rate_full.Given as goal

-- the rate so far is that of the filters so far, and the room is that of the next
abbrev pub invariant-filters : goal.invariant-filters
invariant-filters l =
    FullSoFar (take l.filter-index l.filters) l.filter-index l.first_room l.room l.rate
