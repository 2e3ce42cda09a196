use Rattle.std.proofs.Common.{◌≡◌, ◌≢◌, arith, sym, subst, true, false, eqb}
use Rattle.bloom_parts.proofs.Common.{ne_eqb, eq-eqb, TellsNext}
use Rattle.bloom_parts.proofs.TurnLemmas.{advances-none, advances-then}
use Rattle.bloom_parts.proofs.LookLemmas.{tells_next-none, tells_next-on, tells_next-stops, tells_next-as}
use Rattle.bloom_parts.proofs.slices.positions.each_is_on.Goals.{then-places-test+else-next_is_on, else-places-test}
use Rattle.bloom_parts.proofs.slices.positions.each_is_on.Goals as goal

pub places-init : goal.places-init
places-init c =
    record { chain = advances-none _; most = omega arith; on = tells_next-none _ _ }

pub places-preserved : goal.places-preserved
places-preserved c =
    let before = c.places.invariant in
    let next = c.next_is_on.ensures in
    record {
      chain = advances-then c.places.found 1 _ _ _ before.chain next.moved;
      most = omega (arith, c.places-test.true);
      on =
          tells_next-on c.places.found _ _ _ _ before.chain before.on c.if-next_is_on.true
          next.found;
    }

pub returns : goal.returns
returns c =
    let before = c.places.invariant in
    let found = c.places.found in
    let count = c.args.count in
    elim c.places-test.branch [
      | then-places-test+else-next_is_on w ↦
          let fewer : found ≢ count = λ same. absurd (omega (arith, same, w.places-test.true)) in
          tells_next-as count _ _ false (eqb found count) (sym (ne_eqb found count fewer))
          (tells_next-stops found count _ _ _ _ (omega (arith, w.places-test.true)) before.chain
          before.on w.if-next_is_on.false w.next_is_on.ensures.found)
      | else-places-test w ↦
          let all : found ≡ count = omega (arith, before.most, w.places-test.false) in
          tells_next-as count _ _ true (eqb found count) (sym (eq-eqb found count all))
          (subst (λ n. TellsNext n c.args.chain.now c.args.words.now true) all before.on)
    ]
