use Rattle.std.proofs.Common.{◌∷◌, arith, subst}
use Rattle.summaries_engine.proofs.Common.{nil_from_length, HoldTogether}
use Rattle.summaries_engine.proofs.CrewLemmas.{hold-same, hold-united}
use Rattle.summaries_engine.proofs.crew.Crew.into_filter.Goals as goal

-- all filters have one shape
pub union-requires : goal.union-requires
union-requires g c =
    hold-same
    (subst (λ l. HoldTogether c.requires.0 c.requires.1 (c.others.whole ∷ l))
    c.in-Some-other.ensures.steps.0 (c.others.invariant c.requires.0 c.requires.1 c.requires.2))

-- one filter fewer is left
pub others-preserved : goal.others-preserved
others-preserved g c = λ first hashes held.
    hold-united
    (subst (λ l. HoldTogether first hashes (c.others.whole ∷ l)) c.in-Some-other.ensures.steps.0
    (c.others.invariant first hashes held))
    c.union.ensures.unites

-- none is left
pub returns : goal.returns
returns g c = λ first hashes held.
    let left = c.others.other-iterator.rest in
    let none = nil_from_length left.items (omega (arith, left.ok, c.in-None.ensures.steps.0)) in
    subst (λ l. HoldTogether first hashes (c.others.whole ∷ l)) none
    (c.others.invariant first hashes held)
