use Rattle.std.proofs.Common.{◌≡◌, ◌<◌, false, map, sym, subst}
use Rattle.bloom_growing.proofs.Common.{setup_of, any_contains, newest_room, IsSound, placement_of, Inserts}
use Rattle.bloom_growing.proofs.GrowingKeptLemmas.{kept-adds}
use Rattle.bloom_growing.proofs.growing.GrowingFilterOf.add.Goals as goal

pub invariant_of-self : goal.invariant_of-self
invariant_of-self g c =
    let inside = c.self.inside in
    let kind = g.F.GrowableFilter.kind in
    let seen = g.F.GrowableFilter.seen in
    let held = c.insert_once.ensures.held c.if-insert_once.true in
    subst
    (λ f. IsSound kind
    (record {
      setup = setup_of inside.rate inside.items inside.hasher;
      older = map seen inside.older.items;
      newest = f;
      taken = inside.taken;
    })
    inside.newest_rate inside.room)
    (sym held) c.self.invariant

pub invariant_of-self-2 : goal.invariant_of-self-2
invariant_of-self-2 g c =
    let inside = c.self.inside in
    let kind = g.F.GrowableFilter.kind in
    let seen = g.F.GrowableFilter.seen in
    let did = c.insert_once.ensures.inserts in
    kept-adds kind _ inside.newest_rate inside.room c.self.invariant c.args.hash
    (seen c.insert_once.new.self)
    (subst (λ v. any_contains kind v.older c.args.hash ≡ false) (sym c.self.view_is) c.requires.new)
    (subst (λ v. v.taken < newest_room v) (sym c.self.view_is) c.requires.room)
    (subst
    (Inserts (placement_of kind) (seen inside.newest) c.args.hash (seen c.insert_once.new.self))
    c.if-insert_once.false did)
