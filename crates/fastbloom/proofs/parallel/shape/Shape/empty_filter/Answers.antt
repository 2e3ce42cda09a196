use Rattle.std.proofs.Common.{◌≡◌, ◌*◌, ◌∙◌, replicate, ap, arith}
use Rattle.std.proofs.lemmas.Grind.{common_steps}
use Rattle.fastbloom.proofs.Common.{words_for, words_of}
use Rattle.fastbloom.proofs.FillLemmas.{filled-none}
use Rattle.fastbloom.proofs.parallel.shape.Shape.empty_filter.Goals as goal

-- 64 bits for each word make this number of words, and no hash is in them
pub returns-in-Ok-clause-empty : goal.returns-in-Ok-clause-empty
returns-in-Ok-clause-empty c =
    let whole : words_for (64 * words_of c.args.self) ≡ words_of c.args.self =
    grind (arith, common_steps) in
    filled-none c.args.self c.hashes.result
    (c.hashes.ensures.words ∙ c.in-Ok.ensures.words ∙ ap (λ w. replicate w 0) whole)
    (c.hashes.ensures.hashes ∙ grind (arith, common_steps, c.args.self.is_shape.some_hashes))
