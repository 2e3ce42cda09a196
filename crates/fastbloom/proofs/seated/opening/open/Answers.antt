use Rattle.std.proofs.Common.{◌<◌, ◌∙◌, subst}
use Rattle.fastbloom.proofs.SeatedLemmas.Opening.{settles, settles-fresh}
use Rattle.fastbloom.proofs.seated.opening.open.Goals as goal

-- the last step keeps the rule
pub load-requires : goal.load-requires
load-requires c = (
  c.put_words.ensures.table ∙ c.requires.at.here,
  subst (λ n. 0 < n) c.requires.count c.requires.some,
  settles _ _ _ _ _ _ c.put_words.ensures.first,
)

-- the last step makes the seat a pass that knows nothing
pub returns-clause-fresh : goal.returns-clause-fresh
returns-clause-fresh c = settles-fresh _ _ c.put_words.ensures.first c.load.ensures.2
