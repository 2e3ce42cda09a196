use Rattle.summaries_engine.proofs.RefusalLemmas.{too_long-message}
use Rattle.summaries_engine.proofs.keys.too_long.Goals as goal

pub returns : goal.returns
returns c = let made = c.anyhow.ensures in record {
  message = too_long-message c.args.name.now c.args.before c.saturating_add-number.result
      c.anyhow.result c.saturating_add-number.ensures made.message;
  len = made.len;
  alone = made.alone;
}
