use Rattle.std.proofs.Common.{◌≡◌, ◌∙◌, ap, map, subst}
use Rattle.summaries_engine.proofs.Common.{IfOk-weaker, key_of, Shape, IsKeyed, HashesInputs, SummarizesInputs, HaveSameKind, parts_of, IsShapeOf}
use Rattle.summaries_engine.proofs.FillerLemmas.{keyed-made, summary-made}
use Rattle.summaries_engine.proofs.summary.build_alone.Goals as goal

-- exactly the bits of all keys are set
pub returns-clause-summary : goal.returns-clause-summary
returns-clause-summary g c =
    let lies = g.S.Inputs.has c.args.inputs.now in
    let names = map (λ name. name.now) c.args.names.now in
    IfOk-weaker c.filled_from.result _
    (λ f. (shape : Shape) → IsShapeOf (parts_of c.args.empty) shape
    → SummarizesInputs lies g.row.END names shape f)
    (λ f did. summary-made c.args.empty f did.0 c.requires did.2 lies g.row.END names
    (subst (λ key. HashesInputs lies key g.row.END names did.0)
    (c.key-key.ensures.value ∙ ap key_of c.hasher.ensures) did.1))
    c.filled_from.ensures.all

-- the kind and the hashers stay
pub returns-clause-kind : goal.returns-clause-kind
returns-clause-kind g c =
    IfOk-weaker c.filled_from.result _ (HaveSameKind c.args.empty) (λ f did. did.2.kind)
    c.filled_from.ensures.all

pub returns-clause-hasher : goal.returns-clause-hasher
returns-clause-hasher g c =
    IfOk-weaker c.filled_from.result _
    (λ f. (parts_of f).hasher ≡ (parts_of c.args.empty).hasher)
    (λ f did. did.2.hasher) c.filled_from.ensures.all

pub returns-clause-keyed : goal.returns-clause-keyed
returns-clause-keyed g c =
    IfOk-weaker c.filled_from.result _ IsKeyed
    (λ f did. keyed-made c.args.empty f did.0 c.requires did.2) c.filled_from.ensures.all
