use Rattle.std.proofs.Common.{◌≡◌, ◌≤◌, ◌+◌, false, [], ◌∷◌, ◌++◌, None, Some, length, map, sym, refl, ◌∙◌, ap, subst}
use Rattle.bloom_growing.proofs.Common.{map-append, err_from_is_err_and, setup_of, newest_room, IsNumber, BeginsNext, RefusesNumber, placement_of, contains}
use Rattle.bloom_growing.proofs.GrowingKeptLemmas.{kept-begins, next-begins, some_room_at}
use Rattle.bloom_growing.proofs.GrowingLemmas.{made-empty}
use Rattle.bloom_growing.proofs.GrowingRefusalLemmas.{refuses-memory}
use Rattle.bloom_growing.proofs.growing.GrowingFilterOf.begin.Goals as goal

pub returns-in_err-next-clause-refused : goal.returns-in_err-next-clause-refused
returns-in_err-next-clause-refused g c =
    let refusal = c.from_residual in
    let refused = err_from_is_err_and refusal.result refusal.ensures.1 in
    let next = next-begins _ _ _ _ c.self.invariant _ c.checked_mul-room.ensures in
    rw (refused.1, refused.2)
    (subst (λ v. RefusesNumber g.F.GrowableFilter.kind v.setup.rate v.setup.room
    (length v.older + 1) (Some c.in_err-next.field-0.0)) c.self.view_is
    (c.in_err-next.ensures.refused _ _ _ next))

pub returns-in_err-reserve-clause-refused : goal.returns-in_err-reserve-clause-refused
returns-in_err-reserve-clause-refused g c =
    let refusal = c.from_residual-in_err-reserve in
    let refused = err_from_is_err_and refusal.result refusal.ensures.1 in
    let next = next-begins _ _ _ _ c.self.invariant _ c.checked_mul-room.ensures in
    rw (refused.1, refused.2)
    (refuses-memory _ _ _ _
    (subst (λ v. RefusesNumber g.F.GrowableFilter.kind v.setup.rate v.setup.room
    (length v.older + 1) None) c.self.view_is (c.in_ok-next.ensures.refused _ _ _ next)))

pub invariant_of-self-2 : goal.invariant_of-self-2
invariant_of-self-2 g c =
    let seen = g.F.GrowableFilter.seen in
    let inside = c.self.inside in
    let pushed = c.push_reserved in
    let items : pushed.new.self.items ≡ inside.older.items ++ inside.newest ∷ [] =
    pushed.ensures.items ∙ ap (λ l. l ++ c.replace-full.result ∷ []) c.in_ok-reserve.ensures.items
    ∙ ap (λ f. inside.older.items ++ f ∷ []) c.replace-full.ensures.value in
    kept-begins _ _ inside.newest_rate inside.room c.self.invariant _
    (seen c.replace-full.new.dest) _ _ (ap seen c.replace-full.ensures.after)
    (c.in_ok-next.ensures.made _ _ _
    (next-begins _ _ _ _ c.self.invariant _ c.checked_mul-room.ensures))
    (map seen pushed.new.self.items)
    (ap (map seen) items ∙ map-append seen inside.older.items (inside.newest ∷ []))
    (subst (λ v. newest_room v ≤ v.taken) (sym c.self.view_is) c.requires.full)

pub returns-clause-begins : goal.returns-clause-begins
returns-clause-begins g c =
    let kind = g.F.GrowableFilter.kind in
    let seen = g.F.GrowableFilter.seen in
    let inside = c.self.inside in
    let pushed = c.push_reserved in
    let items : pushed.new.self.items ≡ inside.older.items ++ inside.newest ∷ [] =
    pushed.ensures.items ∙ ap (λ l. l ++ c.replace-full.result ∷ []) c.in_ok-reserve.ensures.items
    ∙ ap (λ f. inside.older.items ++ f ∷ []) c.replace-full.ensures.value in
    let next = next-begins _ _ _ _ c.self.invariant _ c.checked_mul-room.ensures in
    subst
    (λ v. BeginsNext kind v (record {
      setup = setup_of inside.rate inside.items inside.hasher;
      older = map seen pushed.new.self.items;
      newest = seen c.replace-full.new.dest;
      taken = 0;
    }))
    c.self.view_is
    (record {
      setup = refl;
      older = ap (map seen) items ∙ map-append seen inside.older.items (inside.newest ∷ []);
      newest = subst (IsNumber kind _ _) (sym (ap seen c.replace-full.ensures.after))
          (c.in_ok-next.ensures.made _ _ _ next).number;
      taken = refl;
    })

pub returns-clause-new : goal.returns-clause-new
returns-clause-new g c = λ hash.
    let kind = g.F.GrowableFilter.kind in
    let seen = g.F.GrowableFilter.seen in
    let next = next-begins _ _ _ _ c.self.invariant _ c.checked_mul-room.ensures in
    subst (λ f. contains (placement_of kind) f hash ≡ false)
    (sym (ap seen c.replace-full.ensures.after))
    (made-empty kind _ _ _ hash (c.in_ok-next.ensures.made _ _ _ next).number)

pub returns-clause-room : goal.returns-clause-room
returns-clause-room g c =
    some_room_at c.self.inside.items
    (length (map g.F.GrowableFilter.seen c.push_reserved.new.self.items))
    c.self.invariant.grown.some_room

pub returns-clause-refused : goal.returns-clause-refused
returns-clause-refused g c =
    subst (λ v. RefusesNumber g.F.GrowableFilter.kind v.setup.rate v.setup.room
    (length v.older + 1) None) c.self.view_is
    (c.in_ok-next.ensures.refused _ _ _
    (next-begins _ _ _ _ c.self.invariant _ c.checked_mul-room.ensures))
