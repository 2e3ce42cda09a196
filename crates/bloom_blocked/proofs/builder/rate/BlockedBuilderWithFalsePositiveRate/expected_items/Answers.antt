use Rattle.std.proofs.Common.{Some, ap}
use Rattle.std.proofs.lemmas.Result.{err_from_is_err_and}
use Rattle.bloom_plain.proofs.BuilderLemmas.{size_of-rate, made_for-zeros}
use Rattle.bloom_blocked.specs.BlockedSizing.{IsSizeInLines, line_words_for, sized_in_lines}
use Rattle.bloom_blocked.proofs.BuilderLemmas.{refused-large}
use Rattle.bloom_blocked.proofs.builder.rate.BlockedBuilderWithFalsePositiveRate.expected_items.Goals as goal

pub returns-in_err-size-clause-refused : goal.returns-in_err-size-clause-refused
returns-in_err-size-clause-refused g c =
    let refusal = c.from_residual in
    let refused = err_from_is_err_and refusal.result refusal.ensures.1 in
    refused-large _ _ _ _ _ c.self.view_is c.max.ensures c.in_err-size.ensures.large
    (rw (refused.1, refused.2) (ap Some c.in_err-size.ensures.refused))

pub returns-in_err-words-clause-refused : goal.returns-in_err-words-clause-refused
returns-in_err-words-clause-refused g c =
    let refusal = c.from_residual-in_err-words in
    let refused = err_from_is_err_and refusal.result refusal.ensures.1 in (
      _,
      size_of-rate IsSizeInLines _ _ _ _ _ c.self.view_is c.max.ensures c.in_ok-size.ensures.value,
      rw (refused.1, refused.2) c.in_err-words.ensures.refused,
    )

pub returns-clause-made : goal.returns-clause-made
returns-clause-made g c =
    made_for-zeros IsSizeInLines _ _ _ _ _ c.self.view_is c.max.ensures c.in_ok-size.ensures.value
    sized_in_lines line_words_for _ _ c.in_ok-words.ensures.words c.expected_items.ensures

pub returns-clause-refused : goal.returns-clause-refused
returns-clause-refused g c = (
  _,
  size_of-rate IsSizeInLines _ _ _ _ _ c.self.view_is c.max.ensures c.in_ok-size.ensures.value,
  c.in_ok-words.ensures.refused,
)
