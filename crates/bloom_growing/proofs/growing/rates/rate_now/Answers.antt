use Rattle.std.proofs.Common.{map, ◌+◌, [], ◌∷◌, ◌++◌, ◌≡◌, take, rules}
use Rattle.bloom_growing.proofs.Common.{map-append, part_now}
use Rattle.bloom_growing.proofs.GrowingRateLemmas.{bounds-none, bounds-push, some-lookups, take-next}
use Rattle.bloom_growing.proofs.growing.rates.rate_now.Goals as goal

-- no filter yet
pub filters-init : goal.filters-init
filters-init c = bounds-none c.new-rate.result (search rules) (search rules)

-- one more filter
pub filters-preserved : goal.filters-preserved
filters-preserved c =
    let f = c.filter-item.result in
    let before = take c.filters.filter-index c.args.filters.now in
    let more : take (c.filters.filter-index + 1) c.args.filters.now ≡ before ++ f ∷ [] =
    take-next c.args.filters.now c.filters.filter-index f c.filters-test.true c.filter-item.is in
    let one = c.false_pos_now in
    let pushed = bounds-push (map part_now before) (part_now f) c.filters.rate one.result
    c.false_pos_of_either-rate.result (some-lookups f f.hashes one.ensures.shape)
    c.filters.invariant one.ensures.holds one.ensures.low one.ensures.high
    c.false_pos_of_either-rate.ensures in
    rw (more, map-append part_now before (f ∷ [])) pushed
