use Rattle.std.proofs.Common.{◌+◌, false, refl, sym, subst, arith}
use Rattle.bloom_growing.proofs.Common.{Clears, placement_of, Inserts}
use Rattle.bloom_growing.proofs.RotatingLemmas.{rotating-filled, rotating-turned}
use Rattle.bloom_growing.proofs.rotating.RotatingFilterOf.insert_hash.Goals as goal

pub invariant_of-self-then-self : goal.invariant_of-self-then-self
invariant_of-self-then-self g c =
    let kind = g.F.GrowableFilter.kind in
    let seen = g.F.GrowableFilter.seen in
    let inside = c.self.inside in
    let did =
    subst
    (Inserts (placement_of kind) (seen inside.newer) c.args.hash (seen c.insert_once.new.self))
    c.if-insert_once.false c.insert_once.ensures.inserts in
    rotating-filled kind _ c.self.invariant c.args.hash (seen c.insert_once.new.self) did
    (inside.taken + 1) refl (omega (arith, c.if-self.true))

pub invariant_of-self-2 : goal.invariant_of-self-2
invariant_of-self-2 g c =
    let kind = g.F.GrowableFilter.kind in
    let seen = g.F.GrowableFilter.seen in
    let inside = c.self.inside in
    let did =
    subst (λ f. Inserts (placement_of kind) (seen inside.newer) c.args.hash (seen f) false)
    (sym c.swap.ensures.x_after)
    (subst
    (Inserts (placement_of kind) (seen inside.newer) c.args.hash (seen c.insert_once.new.self))
    c.if-insert_once.false c.insert_once.ensures.inserts) in
    rotating-turned kind _ c.self.invariant c.args.hash (seen c.swap.new.x) did
    (seen c.clear.new.self) c.saturating_add-self-inside.result
    c.content_of_words.ensures.equality c.clear.ensures.range
    (subst (λ f. Clears (seen f) (seen c.clear.new.self)) c.swap.ensures.y_after
    c.clear.ensures.clears)
    (omega (arith, c.saturating_add-self-inside.ensures)) (omega (arith, c.if-self.false))
