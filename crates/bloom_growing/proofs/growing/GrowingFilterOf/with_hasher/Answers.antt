use Rattle.std.proofs.Common.{◌≡◌, ◌≤◌, map, max, refl, ap, arith}
use Rattle.bloom_growing.proofs.Common.{err_from_is_err_and, setup_of}
use Rattle.bloom_growing.proofs.GrowingKeptLemmas.{kept-begun, next-first}
use Rattle.bloom_growing.proofs.growing.GrowingFilterOf.with_hasher.Goals as goal

pub returns-in_err-first-clause-refused : goal.returns-in_err-first-clause-refused
returns-in_err-first-clause-refused g c =
    let refusal = c.from_residual in
    let refused = err_from_is_err_and refusal.result refusal.ensures.1 in
    rw (refused.1, refused.2)
    (c.in_err-first.ensures.refused _ _ 0
    (next-first c.args.rate (max 1 c.args.items) c.max-items.result
    (omega (arith, c.max-items.ensures)) (omega arith)))

pub returns-clause-refused : goal.returns-clause-refused
returns-clause-refused g c =
    c.in_ok-first.ensures.refused _ _ 0
    (next-first c.args.rate (max 1 c.args.items) c.max-items.result
    (omega (arith, c.max-items.ensures)) (omega arith))

pub invariant_of-result : goal.invariant_of-result
invariant_of-result g c =
    let items = c.max-items.result in
    let some : 1 ≤ items = omega (arith, c.max-items.ensures) in
    kept-begun _ (setup_of c.args.rate items c.args.hasher) _ _ _ _ some c.requires
    (ap (map g.F.GrowableFilter.seen) c.new.ensures.items)
    (c.in_ok-first.ensures.made c.args.rate items 0 (next-first c.args.rate items items refl some))

pub returns-clause-begun : goal.returns-clause-begun
returns-clause-begun g c =
    let asked = max 1 c.args.items in
    let is : c.max-items.result ≡ asked = omega (arith, c.max-items.ensures) in
    let next = next-first c.args.rate asked c.max-items.result is (omega arith) in
    record {
      setup = ap (λ r. setup_of c.args.rate r c.args.hasher) is;
      older = ap (map g.F.GrowableFilter.seen) c.new.ensures.items;
      newest = (c.in_ok-first.ensures.made c.args.rate asked 0 next).number;
      taken = refl;
    }
