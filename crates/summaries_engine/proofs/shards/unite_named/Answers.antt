use Rattle.std.proofs.Common.{◌≡◌, ◌≤◌, Err, length, rules, subst, sym}
use Rattle.summaries_engine.proofs.NameLemmas.{first-name, names-behind, names-whole, next-name}
use Rattle.summaries_engine.proofs.UnitingLemmas.{IsUniting, stops-first, stops-misfit, stops-unloaded, uniting-all, uniting-first, uniting-next}
use Rattle.summaries_engine.proofs.shards.unite_named.Goals as goal

-- the first filter couldn't be loaded
pub returns-in_err-whole-clause-stops : goal.returns-in_err-whole-clause-stops
returns-in_err-whole-clause-stops g c =
    let is : c.from_residual.result ≡ Err c.in_err-whole.field-0.0 = search rules in
    rw is
    (stops-first (g.S.Shelf.has c.args.shelf.now) c.in-Some.first.now.now _
    (first-name c.args.names.now c.in-Some.is c.split_first.ensures.cases)
    (g.S.Shelf.fails c.args.shelf.now) c.in_err-whole.ensures.failed)

-- the first filter is the whole
pub names-init : goal.names-init
names-init g c =
    uniting-first (g.S.Shelf.has c.args.shelf.now) c.in-Some.first.now.now
    c.in_ok-whole.ensures.named

-- another filter couldn't be loaded
pub returns-in_err-shard-clause-stops : goal.returns-in_err-shard-clause-stops
returns-in_err-shard-clause-stops g c =
    let is : c.from_residual-in_err-shard.result ≡ Err c.in_err-shard.field-0.0 = search rules in
    let names = names-behind c.args.names.now c.in-Some.is c.split_first.ensures.cases
    c.names.name-index _ c.names-test.true in
    rw is
    (stops-unloaded (g.S.Shelf.has c.args.shelf.now) c.in-Some.first.now.now c.names.invariant _
    names.0 names.1 (g.S.Shelf.fails c.args.shelf.now) c.in_err-shard.ensures.failed)

-- another filter differs from the first
pub returns-in-Err-clause-stops : goal.returns-in-Err-clause-stops
returns-in-Err-clause-stops g c =
    let names = names-behind c.args.names.now c.in-Some.is c.split_first.ensures.cases
    c.names.name-index _ c.names-test.true in
    stops-misfit (g.S.Shelf.has c.args.shelf.now) c.in-Some.first.now.now c.names.invariant _
    names.0 names.1 (g.S.Shelf.fails c.args.shelf.now) _ c.in_ok-shard.ensures.named
    c.in-Err.ensures.differs c.misfit.ensures

-- one filter more
pub names-preserved : goal.names-preserved
names-preserved g c =
    let has = g.S.Shelf.has c.args.shelf.now in
    let first = c.in-Some.first.now.now in
    subst (λ names. IsUniting has first names c.add.new.whole)
    (sym (next-name c.in-Some.others.now c.names.name-index _ c.names-test.true))
    (uniting-next has first c.names.invariant _ c.in_ok-shard.ensures.named c.in-Ok.ensures.fits
    c.in-Ok.ensures.unites)

-- all filters were loaded and united
pub returns-clause-whole : goal.returns-clause-whole
returns-clause-whole g c =
    let last : length c.in-Some.others.now ≤ c.names.name-index = search rules in
    uniting-all (g.S.Shelf.has c.args.shelf.now) c.in-Some.first.now.now c.names.invariant
    (names-whole c.args.names.now c.in-Some.is c.split_first.ensures.cases c.names.name-index last)
    c.equality_of_filters.ensures.words c.equality_of_filters.ensures.content
    c.fill_of_any_cutting.ensures c.filled_contains.ensures c.test_of_hash.ensures
    c.as_slice-words.ensures.range
