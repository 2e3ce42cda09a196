use Rattle.std.proofs.lemmas.Result.{err_from_is_err_and}
use Rattle.bloom_parts.specs.Sizing.{IsSizeFor}
use Rattle.bloom_plain.specs.Builders.{sized_filter, words_for}
use Rattle.bloom_plain.proofs.BuilderLemmas.{size_of-rate, made_for-zeros}
use Rattle.bloom_plain.proofs.builder.rate.BuilderWithFalsePositiveRate.expected_items.Goals as goal

pub returns-in_err-bits-clause-refused : goal.returns-in_err-bits-clause-refused
returns-in_err-bits-clause-refused g c =
    let refusal = c.from_residual-in_err-bits in
    let refused = err_from_is_err_and refusal.result refusal.ensures.1 in (
      _,
      size_of-rate IsSizeFor _ _ _ _ _ c.self.view_is c.max.ensures c.in_ok-size.ensures.value,
      rw (refused.1, refused.2) c.in_err-bits.ensures.refused,
    )

pub returns-clause-made : goal.returns-clause-made
returns-clause-made g c =
    made_for-zeros IsSizeFor _ _ _ _ _ c.self.view_is c.max.ensures c.in_ok-size.ensures.value
    sized_filter words_for _ _ c.in_ok-bits.ensures.words c.expected_items.ensures

pub returns-clause-refused : goal.returns-clause-refused
returns-clause-refused g c = (
  _,
  size_of-rate IsSizeFor _ _ _ _ _ c.self.view_is c.max.ensures c.in_ok-size.ensures.value,
  c.in_ok-bits.ensures.refused,
)
