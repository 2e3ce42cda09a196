use Rattle.std.proofs.Common.{arith}
use Rattle.std.specs.Mem.Slots.{slots_counts}
use Rattle.fastbloom.proofs.SeatedLemmas.Meets.{take-next, closes-taken}
use Rattle.fastbloom.proofs.seated.closing.close_table.Goals as goal

-- the next word comes behind the others
pub words-preserved : goal.words-preserved
words-preserved c = (
  take-next _ _ _ _ _ c.word.ensures c.words.invariant.0 c.push_reserved.ensures.items,
  grind (arith, c.push_reserved.ensures.len),
  grind (arith, c.push_reserved.ensures.capacity),
)

-- all of the words are those of the table in the end
pub returns-clause-closes : goal.returns-clause-closes
returns-clause-closes c =
    closes-taken _ _ _ c.args.seat _ _ _ c.words.i _ c.requires.pass
    c.close_with-closed.ensures.values.2 c.words.invariant.0 (omega arith)
    ((slots_counts c.close_with-closed.result.words).0)
