use Rattle.std.proofs.Common.{◌≡◌, ◌<◌, false, map, sym, ◌∙◌, ap, subst, arith}
use Rattle.bloom_growing.specs.Growing.{any_contains, newest_room}
use Rattle.bloom_growing.proofs.GrowingTakesLemmas.{takes-spare}
use Rattle.bloom_growing.proofs.growing.GrowingFilterOf.insert_hash.Goals as goal

pub returns-then-self-clause-takes : goal.returns-then-self-clause-takes
returns-then-self-clause-takes g c =
    let kind = g.F.GrowableFilter.kind in
    let seen = g.F.GrowableFilter.seen in
    let hash = c.args.hash in
    let absent =
    subst (λ v. any_contains kind v.older hash ≡ false) c.self.view_is
    (ap (λ l. any_contains kind (map seen l) hash) (sym c.deref.ensures.value)
    ∙ sym c.any_contains.ensures
    ∙ c.if-any_contains.false) in
    let spare =
    subst (λ v. v.taken < newest_room v) c.self.view_is
    (omega (arith, c.if-self.true, c.self.invariant.newest_is)) in
    takes-spare kind c.args.self.now hash c.add.new.self _ absent spare c.add.ensures.reply
    c.add.ensures.held c.add.ensures.adds
