use Rattle.std.proofs.Common.{Some, ap}
use Rattle.std.proofs.lemmas.Result.{err_from_is_err_and}
use Rattle.fastbloom_c.proofs.BlockedPlanLemmas.{size-given, hashes-given, refused-size, refused-large}
use Rattle.fastbloom_c.proofs.blocked.plans.plan_in_lines.Goals as goal

pub returns-in_err-bits-clause-refused : goal.returns-in_err-bits-clause-refused
returns-in_err-bits-clause-refused c =
    let rate = c.in_ok-rate.ensures in
    let refusal = c.from_residual-in_err-bits in
    let refused = err_from_is_err_and refusal.result refusal.ensures.1 in
    refused-large _ _ _ _ _ _ rate.num rate.den c.max.ensures _ rate.refused
    c.in_err-bits.ensures.large
    (rw (refused.1, refused.2) (ap Some c.in_err-bits.ensures.refused))

pub returns-in_err-words-clause-refused : goal.returns-in_err-words-clause-refused
returns-in_err-words-clause-refused c =
    let rate = c.in_ok-rate.ensures in
    let refusal = c.from_residual-in_err-words in
    let refused = err_from_is_err_and refusal.result refusal.ensures.1 in
    refused-size _ _ _ _ _ _ rate.num rate.den c.max.ensures _ _ rate.refused
    c.in_ok-bits.ensures.value (rw (refused.1, refused.2) c.in_err-words.ensures.refused)

pub returns-clause-words : goal.returns-clause-words
returns-clause-words c =
    let rate = c.in_ok-rate.ensures in (
      c.in_ok-bits.bits,
      size-given _ _ _ _ _ _ rate.num rate.den c.max.ensures _ c.in_ok-bits.ensures.value,
      c.in_ok-words.ensures.value,
    )

pub returns-clause-hashes : goal.returns-clause-hashes
returns-clause-hashes c =
    hashes-given _ _ _ _ c.max-2.ensures c.optimal_hashes_in_lines.ensures.value

pub returns-clause-refused : goal.returns-clause-refused
returns-clause-refused c =
    let rate = c.in_ok-rate.ensures in
    refused-size _ _ _ _ _ _ rate.num rate.den c.max.ensures _ _ rate.refused
    c.in_ok-bits.ensures.value c.in_ok-words.ensures.refused
