use Rattle.std.proofs.lemmas.Result.{err_from_is_err_and}
use Rattle.bloom_blocked.proofs.SizingLemmas.{large-in_lines, sized-in_lines}
use Rattle.bloom_blocked.proofs.sizing.optimal_size_in_lines.Goals as goal

pub returns-in_err-plain-clause-large : goal.returns-in_err-plain-clause-large
returns-in_err-plain-clause-large c =
    let refusal = c.from_residual in
    let refused = err_from_is_err_and refusal.result refusal.ensures.1 in
    rw (refused.1) (large-in_lines _ _ _ c.in_err-plain.ensures.large)

pub returns-then-size-clause-large : goal.returns-then-size-clause-large
returns-then-size-clause-large c =
    sized-in_lines _ _ _ _ _ _ c.in_ok-plain.ensures.value c.more_for-more.ensures.value
    c.div_ceil-size.ensures c.if-size.true
