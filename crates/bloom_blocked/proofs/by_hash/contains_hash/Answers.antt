use Rattle.std.proofs.Common.{◌/◌, length, ◌∙◌}
use Rattle.bloom_blocked.proofs.LineLemmas.{line-test}
use Rattle.bloom_blocked.proofs.by_hash.contains_hash.Goals as goal

pub returns : goal.returns
returns c =
    (rw (c.inner.ensures) at c.contains_in_few_words.ensures)
    ∙ line-test c.args.words.now _ (length c.args.words.now / 8) c.args.num_hashes c.args.hash
    c.line_start-at.ensures.start c.line_start-at.ensures.range
