use Rattle.std.proofs.Common.{length, take, arith, rules}
use Rattle.std.proofs.lemmas.List.{length-take-le}
use Rattle.bloom_growing.proofs.GrowingRateLemmas.{bounds-none, full-push, take-next, room-fits}
use Rattle.bloom_growing.proofs.growing.rates.rate_full.Goals as goal

-- no filter yet
pub filters-init : goal.filters-init
filters-init c = record {
  bounds = bounds-none c.new-rate.result (search rules) (search rules);
  next = omega arith;
}

-- one more filter, and twice the room
pub filters-preserved : goal.filters-preserved
filters-preserved c =
    let f = c.filter-item.result in
    let i = c.filters.filter-index in
    let one = c.false_pos_bounds in
    let more = take-next c.args.filters.now i f c.filters-test.true c.filter-item.is in
    rw more
    (full-push (take i c.args.filters.now) f i c.args.first_room c.filters.room
    c.filters.rate one.result c.false_pos_of_either-rate.result
    (length-take-le i c.args.filters.now c.filters.auto.filter-index-end) c.filters.invariant
    one.ensures.shape one.ensures.holds one.ensures.low one.ensures.high
    c.false_pos_of_either-rate.ensures)

-- the next filter's room fits, since the last one's does
pub overflow_mul-room : goal.overflow_mul-room
overflow_mul-room c =
    let fits = room-fits c.args.first_room c.filters.filter-index (length c.args.filters.now)
    c.filters-test.true c.requires in
    omega (arith, fits, c.filters.invariant.next)
