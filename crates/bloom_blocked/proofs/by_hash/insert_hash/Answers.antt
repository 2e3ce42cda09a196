use Rattle.std.proofs.Common.{◌/◌, length, ◌∙◌}
use Rattle.bloom_blocked.proofs.LineLemmas.{line-test, line-turned}
use Rattle.bloom_blocked.proofs.by_hash.insert_hash.Goals as goal

pub returns-clause-reply : goal.returns-clause-reply
returns-clause-reply c =
    (rw (c.inner.ensures) at c.insert_in_few_words.ensures.reply)
    ∙ line-test c.args.words.now _ (length c.args.words.now / 8) c.args.num_hashes c.args.hash
    c.line_start-at.ensures.start c.line_start-at.ensures.range

pub returns-clause-content : goal.returns-clause-content
returns-clause-content c =
    line-turned c.args.words.now _ _ (length c.args.words.now / 8) c.args.num_hashes c.args.hash
    c.line_start-at.ensures.start c.line_start-at.ensures.range c.insert_in_few_words.ensures.shape
    (rw (c.inner.ensures) at c.insert_in_few_words.ensures.content)
