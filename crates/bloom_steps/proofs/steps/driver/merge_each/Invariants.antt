use Rattle.std.proofs.Common.{ℕ, ◌*◌, None, if◌then◌else◌}
use Rattle.bloom_steps.specs.declared.steps.vocabulary.Step.TheVariants as step
use Rattle.bloom_steps.proofs.Common.{EachPair}
use Rattle.bloom_steps.proofs.StepLemmas.Driving.{HasGone, KeepsNothing}
use Rattle.bloom_steps.proofs.steps.driver.merge_each.Given as goal

-- the words so far were merged, each by two steps
abbrev pub invariant-words : goal.invariant-words
invariant-words g l = (k : ℕ) → HasGone g.W.WordStore.count g.W.WordStore.moved k
    (EachPair (if l.fn.sets then step.Or else step.And) l.fn.sets) KeepsNothing
    l.fn.store l.store (2 * l.word) None
