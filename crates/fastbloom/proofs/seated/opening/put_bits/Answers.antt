use Rattle.fastbloom.proofs.SeatedLemmas.Puts.{puts-by}
use Rattle.fastbloom.proofs.SeatedLemmas.Opening.{puts_in}
use Rattle.fastbloom.proofs.seated.opening.put_bits.Goals as goal

-- the step keeps the rule
pub fetch_or-requires : goal.fetch_or-requires
fetch_or-requires c = (
  c.requires.at.here,
  c.requires.within,
  puts_in _ _ _ _ _ _ _ c.requires.first,
)

-- the step adds to the start alone
pub returns : goal.returns
returns c = puts-by _ _ _ c.requires.first c.fetch_or.ensures.0 c.fetch_or.ensures.2
