use Rattle.std.proofs.Common.{◌/◌, length}
use Rattle.bloom_blocked.proofs.LineLemmas.{line-turned}
use Rattle.bloom_blocked.proofs.many.set_in_line.Goals as goal

pub returns-clause-content : goal.returns-clause-content
returns-clause-content c =
    line-turned c.args.words.now _ _ (length c.args.words.now / 8) c.args.num_hashes c.args.hash
    c.line_start-at.ensures.start c.line_start-at.ensures.range c.set_positions.ensures.shape
    (rw (c.inner.ensures) at c.set_positions.ensures.content)
