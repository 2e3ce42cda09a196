use Rattle.std.proofs.Common.{◌∙◌, arith}
use Rattle.bloom_growing.proofs.Common.{err_from_is_err_and, setup_of}
use Rattle.bloom_growing.proofs.GrowingKeptLemmas.{is_number}
use Rattle.bloom_growing.proofs.GrowingRefusalLemmas.{refuses-rate, refuses-room, refuses-size, room-of, room-past}
use Rattle.bloom_growing.proofs.growing.filters.make_next.Goals as goal

pub returns-in_err-rate-clause-refused : goal.returns-in_err-rate-clause-refused
returns-in_err-rate-clause-refused g c = λ rate first i next.
    let refusal = c.from_residual in
    let refused = err_from_is_err_and refusal.result refusal.ensures.1 in
    rw (refused.1, refused.2)
    (refuses-rate _ rate first i _ _ next.den c.in_err-rate.ensures.refused
    c.in_err-rate.ensures.error)

pub returns-in_default-clause-refused : goal.returns-in_default-clause-refused
returns-in_default-clause-refused g c = λ rate first i next.
    let half = c.in_ok-rate.ensures in
    refuses-room _ rate first i _ (half.den ∙ next.den) half.fits
    (room-past rate c.args.last first i c.args.room c.in_default.is next)

pub returns-in_err-filter-clause-refused : goal.returns-in_err-filter-clause-refused
returns-in_err-filter-clause-refused g c = λ rate first i next.
    let refusal = c.from_residual-in_err-filter in
    let refused = err_from_is_err_and refusal.result refusal.ensures.1 in
    let half = c.in_ok-rate.ensures in
    let is = room-of rate c.args.last first i c.in-Some.room c.args.room c.in-Some.is next in
    rw (refused.1, refused.2)
    (refuses-size _ rate first i c.in_ok-rate.rate c.in-Some.room _ (half.num ∙ next.num)
    (half.den ∙ next.den) half.fits is (omega arith) (omega (arith, is, next.some))
    c.in_err-filter.ensures.refused)

pub returns-clause-made : goal.returns-clause-made
returns-clause-made g c = λ rate first i next.
    let half = c.in_ok-rate.ensures in
    let is = room-of rate c.args.last first i c.in-Some.room c.args.room c.in-Some.is next in
    record {
      number = is_number _ (setup_of rate first c.args.hasher.now) i c.in_ok-rate.rate
          c.in-Some.room _ (half.num ∙ next.num) (half.den ∙ next.den) is
          c.in_ok-filter.ensures.made;
      num = half.num ∙ next.num;
      den = half.den ∙ next.den;
      is_room = is;
    }

pub returns-clause-refused : goal.returns-clause-refused
returns-clause-refused g c = λ rate first i next.
    let half = c.in_ok-rate.ensures in
    let is = room-of rate c.args.last first i c.in-Some.room c.args.room c.in-Some.is next in
    refuses-size _ rate first i c.in_ok-rate.rate c.in-Some.room _ (half.num ∙ next.num)
    (half.den ∙ next.den) half.fits is (omega arith) (omega (arith, is, next.some))
    c.in_ok-filter.ensures.refused
