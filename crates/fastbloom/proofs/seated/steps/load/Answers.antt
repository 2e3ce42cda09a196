use Rattle.std.proofs.Common.{◌<◌, subst}
use Rattle.fastbloom.proofs.SeatedLemmas.Steps.Loading.{loads}
use Rattle.fastbloom.proofs.seated.steps.load.Goals as goal

-- a load keeps the rule
pub load-requires : goal.load-requires
load-requires c = (
  c.requires.at.here,
  c.requires.within,
  loads _ _ _ _ _ _
      (subst (λ n. c.args.word < n) c.requires.at.words c.requires.within) c.requires.pass,
)
