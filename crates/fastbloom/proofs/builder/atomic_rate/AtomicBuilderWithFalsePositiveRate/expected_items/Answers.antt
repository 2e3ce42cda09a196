use Rattle.std.proofs.lemmas.Result.{err_from_is_err_and}
use Rattle.fastbloom.proofs.FormLemmas.{refused-parts, form_of-parts}
use Rattle.fastbloom.proofs.builder.atomic_rate.AtomicBuilderWithFalsePositiveRate.expected_items.Goals as goal

pub returns-in_err-words-clause-refused : goal.returns-in_err-words-clause-refused
returns-in_err-words-clause-refused g c =
    let refusal = c.from_residual-in_err-words in
    let refused = err_from_is_err_and refusal.result refusal.ensures.1 in
    refused-parts _ _ c.self.view_is _ _ _ _ _ c.rate_and_hasher-hasher.ensures.rate c.max.ensures
    c.in_ok-size.ensures.value (rw (refused.1, refused.2) c.in_err-words.ensures.refused)

pub returns-clause-form : goal.returns-clause-form
returns-clause-form g c =
    form_of-parts _ _ c.self.view_is _ _ _ _ _ _ _ _ _ c.rate_and_hasher-hasher.ensures
    c.max.ensures c.in_ok-size.ensures.value c.in_ok-words.ensures.began
    c.in_ok-words.ensures.count c.num_bits.ensures.value c.num_hashes_for-num_hashes.ensures
    c.from_parts.ensures

pub returns-clause-refused : goal.returns-clause-refused
returns-clause-refused g c =
    refused-parts _ _ c.self.view_is _ _ _ _ _ c.rate_and_hasher-hasher.ensures.rate c.max.ensures
    c.in_ok-size.ensures.value c.in_ok-words.ensures.refused
