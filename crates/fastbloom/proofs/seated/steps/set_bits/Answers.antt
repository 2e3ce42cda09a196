use Rattle.std.proofs.Common.{◌<◌, subst}
use Rattle.fastbloom.proofs.SeatedLemmas.Steps.Setting.{sets_bits}
use Rattle.fastbloom.proofs.seated.steps.set_bits.Goals as goal

-- an `|` keeps the rule
pub fetch_or-requires : goal.fetch_or-requires
fetch_or-requires c = (
  c.requires.at.here,
  c.requires.within,
  sets_bits _ _ _ _ _ _ _
      (subst (λ n. c.args.word < n) c.requires.at.words c.requires.within) c.requires.pass,
)
