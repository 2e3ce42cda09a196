use Rattle.std.proofs.Common.{sym, ◌∙◌, length}
use Rattle.std.proofs.lemmas.Bool.{eqb-false}
use Rattle.bloom_engine.proofs.NumberLemmas.{tried, number_of-whole}
use Rattle.bloom_engine.proofs.number.number.Goals as goal

-- each was a digit
pub returns : goal.returns
returns c =
    let some =
    eqb-false (length c.args.text.now) 0 (sym c.is_empty.ensures ∙ c.if-is_empty.false) in
    c.ok.ensures.value ∙ tried c.try_from.result c.digits.value c.try_from.ensures
    ∙ number_of-whole c.args.text.now c.digits.digit-index c.digits.value c.digits-test.false some
    c.if-text-gt-MOST_DIGITS.false c.digits.invariant.value c.digits.invariant.all
