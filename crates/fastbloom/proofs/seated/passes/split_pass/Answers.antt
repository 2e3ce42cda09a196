use Rattle.fastbloom.proofs.SeatedLemmas.Steps.Splitting.{begins}
use Rattle.fastbloom.proofs.seated.passes.split_pass.Goals as goal

-- the split keeps the rule
pub split_seat-requires : goal.split_seat-requires
split_seat-requires c = (
  c.requires.at.here,
  c.requires.some,
  begins _ _ _ _ c.requires.fresh c.requires.more,
)
