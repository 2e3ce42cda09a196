use Rattle.std.proofs.Common.{ℕ, None, if◌then◌else◌}
use Rattle.bloom_steps.specs.declared.steps.vocabulary.Step.TheVariants as step
use Rattle.bloom_steps.proofs.Common.{EachWord}
use Rattle.bloom_steps.proofs.StepLemmas.Driving.{HasGone, KeepsNothing}
use Rattle.bloom_steps.proofs.steps.driver.clear_each.Given as goal

-- the words so far were cleared, each by a step
abbrev pub invariant-words : goal.invariant-words
invariant-words g l = (k : ℕ) → HasGone g.W.WordStore.count g.W.WordStore.moved k
    (EachWord (if l.fn.takes then step.Take else step.Zero)) KeepsNothing
    l.fn.store l.store l.word None
