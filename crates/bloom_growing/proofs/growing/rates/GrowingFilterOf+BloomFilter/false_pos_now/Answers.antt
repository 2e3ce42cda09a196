use Rattle.std.proofs.Common.{[], ◌∷◌, ◌++◌, map, sym, subst}
use Rattle.bloom_growing.proofs.Common.{map-append, map-id, BoundsAny, part_now, parts_now}
use Rattle.bloom_growing.proofs.GrowingRateLemmas.{bounds-push, some-lookups}
use Rattle.bloom_growing.proofs.growing.rates.GrowingFilterOf+BloomFilter.false_pos_now.Goals as goal

-- the newest filter is one more
pub returns : goal.returns
returns c =
    let newest = c.self.inside.newest in
    let one = c.false_pos_now in
    let older = c.self.inside.older.items in
    let rest =
    subst (λ l. BoundsAny (map part_now l) c.rate_now.result) c.deref.ensures.value
    c.rate_now.ensures in
    let pushed = bounds-push (map part_now older) (part_now newest) c.rate_now.result one.result
    c.false_pos_of_either.result (some-lookups newest newest.hashes one.ensures.shape) rest
    one.ensures.holds one.ensures.low one.ensures.high c.false_pos_of_either.ensures in
    subst (λ g. BoundsAny (parts_now g) c.false_pos_of_either.result) c.self.view_is
    (subst (λ l. BoundsAny (map part_now (l ++ newest ∷ [])) c.false_pos_of_either.result)
    (sym (map-id older))
    (subst (λ l. BoundsAny l c.false_pos_of_either.result)
    (sym (map-append part_now older (newest ∷ []))) pushed))
