use Rattle.std.proofs.Common.{◌+◌, ◌*◌, [], ◌∷◌, subst, rules}
use Rattle.bloom_growing.specs.GrowingRates.{BoundsAny, part_after}
use Rattle.bloom_growing.proofs.GrowingRateLemmas.{some-lookups}
use Rattle.bloom_growing.proofs.RotatingLemmas.{bounds-two}
use Rattle.bloom_growing.proofs.rotating.rates.RotatingFilterOf+BloomFilter.false_pos_bounds.Goals as goal

pub returns : goal.returns
returns c =
    let older = c.self.inside.older in
    let newer = c.self.inside.newer in
    let items = c.older_taken-items.result in
    let taken = c.self.inside.taken in
    let one = c.false_pos_bounds in
    let other = c.false_pos_bounds-2 in
    let either = c.false_pos_of_either-older in
    let now = c.args.self.now in
    subst
    (λ n. BoundsAny (part_after now.older n ∷ part_after now.newer now.taken ∷ [])
    c.false_pos_of_either.result)
    c.older_taken-items.ensures
    (subst
    (λ r. BoundsAny (part_after r.older items ∷ part_after r.newer r.taken ∷ [])
    c.false_pos_of_either.result)
    c.self.view_is
    (bounds-two (part_after older items) (part_after newer taken) c.new.result one.result
    other.result either.result c.false_pos_of_either.result
    (some-lookups older (older.hashes * items + older.hashes) one.ensures.shape)
    (some-lookups newer (newer.hashes * taken + newer.hashes) other.ensures.shape)
    (search rules) (search rules) one.ensures.holds one.ensures.low one.ensures.high
    other.ensures.holds other.ensures.low other.ensures.high either.ensures
    c.false_pos_of_either.ensures))
