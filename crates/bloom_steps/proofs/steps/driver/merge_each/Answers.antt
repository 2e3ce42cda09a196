use Rattle.std.proofs.Common.{◌*◌, arith, None}
use Rattle.bloom_steps.proofs.StepLemmas.Driven.{pair-next}
use Rattle.bloom_steps.proofs.StepLemmas.Driving.{gone-all, gone-none, KeepsNothing}
use Rattle.bloom_steps.proofs.steps.driver.merge_each.Goals as goal

pub step-other-requires : goal.step-other-requires
step-other-requires g c =
    let gone = c.words.invariant 0 in
    let end = c.num_words-word-end.ensures.value in
    record { within = omega (arith, gone.words, c.words-test.true, end) }

pub step-requires : goal.step-requires
step-requires g c =
    let before = (c.words.invariant 0).words in
    let end = c.num_words-word-end.ensures.value in
    let read = c.step-other.ensures.words in
    let here = c.merging.ensures.within in
    record { within = omega (arith, here, before, read, c.words-test.true, end) }

pub words-init : goal.words-init
words-init g c = λ k.
    gone-none _ _ k _ KeepsNothing _ None
    (omega (arith, c.num_words-word-end.ensures.value, c.num_words-word-end.ensures.least)) tt

pub words-preserved : goal.words-preserved
words-preserved g c = λ k.
    pair-next _ _ k _ _ _ _ _ _ c.words.word (c.words.invariant k)
    (omega (arith, c.words-test.true, c.num_words-word-end.ensures.value)) _ c.step.result
    c.step-other.ensures _ c.merging.ensures.value c.step.ensures

pub returns-clause-script : goal.returns-clause-script
returns-clause-script g c = λ k.
    gone-all _ _ k _ _ _ _ (2 * c.words.word) None (c.words.invariant k)
    (omega (arith, c.words-test.false, c.num_words-word-end.ensures.value))

pub returns-clause-words : goal.returns-clause-words
returns-clause-words g c = (c.words.invariant 0).words
