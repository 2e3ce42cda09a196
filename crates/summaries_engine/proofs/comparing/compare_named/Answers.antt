use Rattle.std.proofs.Common.{◌≡◌, [], ◌∷◌, Err, inr, refl, rules}
use Rattle.summaries_engine.proofs.UnitingLemmas.{stops-first, stops-misfit, stops-unloaded, uniting-first}
use Rattle.summaries_engine.proofs.comparing.compare_named.Goals as goal

-- the first filter couldn't be loaded
pub returns-in_err-first-clause-stops : goal.returns-in_err-first-clause-stops
returns-in_err-first-clause-stops g c =
    let is : c.from_residual.result ≡ Err c.in_err-first.field-0.0 = search rules in
    rw is
    (inr (stops-first (g.S.Shelf.has c.args.shelf.now) c.args.one.now (c.args.other.now ∷ []) refl
    (g.S.Shelf.fails c.args.shelf.now) c.in_err-first.ensures.failed))

-- the second filter couldn't be loaded
pub returns-in_err-second-clause-stops : goal.returns-in_err-second-clause-stops
returns-in_err-second-clause-stops g c =
    let has = g.S.Shelf.has c.args.shelf.now in
    let is : c.from_residual-in_err-second.result ≡ Err c.in_err-second.field-0.0 =
    search rules in
    rw is
    (inr (stops-unloaded has c.args.one.now
    (uniting-first has c.args.one.now c.in_ok-first.ensures.named) c.args.other.now [] refl
    (g.S.Shelf.fails c.args.shelf.now) c.in_err-second.ensures.failed))

-- the second filter differs from the first
pub returns-in-Err-clause-stops : goal.returns-in-Err-clause-stops
returns-in-Err-clause-stops g c =
    let has = g.S.Shelf.has c.args.shelf.now in
    inr (stops-misfit has c.args.one.now
    (uniting-first has c.args.one.now c.in_ok-first.ensures.named) c.args.other.now [] refl
    (g.S.Shelf.fails c.args.shelf.now) _ c.in_ok-second.ensures.named c.in-Err.ensures.differs
    c.misfit.ensures)
