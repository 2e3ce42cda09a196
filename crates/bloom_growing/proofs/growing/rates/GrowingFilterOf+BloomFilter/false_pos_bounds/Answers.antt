use Rattle.std.proofs.Common.{◌+◌, ◌*◌, [], ◌∷◌, ◌++◌, length, subst, sym, ap, arith}
use Rattle.bloom_growing.proofs.Common.{map-id, room_at, BoundsAny, part_after, parts_full, parts_grown}
use Rattle.bloom_growing.proofs.GrowingRateLemmas.{bounds-push, some-lookups}
use Rattle.bloom_growing.proofs.growing.rates.GrowingFilterOf+BloomFilter.false_pos_bounds.Goals as goal

-- the room of the newest filter fits
pub rate_full-requires : goal.rate_full-requires
rate_full-requires c =
    let long = ap (λ l. room_at c.self.inside.items (length l)) c.deref.ensures.value in
    let older = c.self.inside.older.items in
    let seen = ap (λ l. room_at c.self.inside.items (length l)) (map-id older) in
    omega (arith, long, seen, c.self.invariant.newest_is)

-- the newest filter is one more
pub returns : goal.returns
returns c =
    let newest = c.self.inside.newest in
    let taken = c.self.inside.taken in
    let room = c.self.inside.items in
    let one = c.false_pos_bounds-newest in
    let older = c.self.inside.older.items in
    let rest =
    subst (λ l. BoundsAny (parts_full room 0 l) c.rate_full.result) c.deref.ensures.value
    c.rate_full.ensures in
    let pushed = bounds-push (parts_full room 0 older) (part_after newest taken)
    c.rate_full.result one.result c.false_pos_of_either.result
    (some-lookups newest (newest.hashes * taken + newest.hashes) one.ensures.shape) rest
    one.ensures.holds one.ensures.low one.ensures.high c.false_pos_of_either.ensures in
    subst (λ g. BoundsAny (parts_grown g) c.false_pos_of_either.result) c.self.view_is
    (subst (λ l. BoundsAny (parts_full room 0 l ++ part_after newest taken ∷ [])
    c.false_pos_of_either.result) (sym (map-id older)) pushed)
