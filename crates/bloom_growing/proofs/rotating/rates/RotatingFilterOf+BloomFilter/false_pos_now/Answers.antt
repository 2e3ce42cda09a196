use Rattle.std.proofs.Common.{subst, rules}
use Rattle.bloom_growing.proofs.Common.{BoundsAny, part_now, both_now}
use Rattle.bloom_growing.proofs.GrowingRateLemmas.{some-lookups}
use Rattle.bloom_growing.proofs.RotatingLemmas.{bounds-two}
use Rattle.bloom_growing.proofs.rotating.rates.RotatingFilterOf+BloomFilter.false_pos_now.Goals as goal

pub returns : goal.returns
returns c =
    let older = c.self.inside.older in
    let newer = c.self.inside.newer in
    let one = c.false_pos_now in
    let other = c.false_pos_now-2 in
    let either = c.false_pos_of_either-older in
    subst (λ r. BoundsAny (both_now r) c.false_pos_of_either.result) c.self.view_is
    (bounds-two (part_now older) (part_now newer) c.new.result one.result other.result
    either.result c.false_pos_of_either.result
    (some-lookups older older.hashes one.ensures.shape)
    (some-lookups newer newer.hashes other.ensures.shape) (search rules) (search rules)
    one.ensures.holds one.ensures.low one.ensures.high other.ensures.holds other.ensures.low
    other.ensures.high either.ensures c.false_pos_of_either.ensures)
