use Rattle.std.proofs.Common.{◌∙◌, ap}
use Rattle.fastbloom.specs.declared.seated.rule.Sets.{Sets}
use Rattle.fastbloom.proofs.SeatedLemmas.Passes.Looking.{views-next}
use Rattle.fastbloom.proofs.seated.meetings.view_words.Goals as goal

-- each load shows one word more
pub words-preserved : goal.words-preserved
words-preserved c = (
  ap (λ (v : Sets). v.role) c.load.ensures.step.0 ∙ c.words.invariant.0,
  views-next c.args.seat.now c.words.seat c.load.new.seat c.words.word c.load.result
      c.load.ensures.table c.load.ensures.step c.words.invariant.1,
)
