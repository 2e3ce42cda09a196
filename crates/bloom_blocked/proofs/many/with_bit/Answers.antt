use Rattle.bloom_blocked.proofs.BitLemmas.{word-where}
use Rattle.bloom_blocked.proofs.many.with_bit.Goals as goal

pub returns : goal.returns
returns c = word-where c.args.word c.args.i c.args.set _ c.requires c.mask_where.ensures
