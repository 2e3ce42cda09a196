use Rattle.std.proofs.Common.{◌/◌, length, sym, ◌∙◌}
use Rattle.bloom_blocked.proofs.Common.{content, many-contained, are_in_line, line_positions}
use Rattle.bloom_blocked.proofs.PositionLemmas.{line_subset_law}
use Rattle.bloom_blocked.proofs.TellLemmas.{none-new}
use Rattle.bloom_blocked.proofs.many.telling.insert_word_telling.Goals as goal

pub returns-then-all_are_set-clause-fresh : goal.returns-then-all_are_set-clause-fresh
returns-then-all_are_set-clause-fresh c =
    none-new (length c.args.words.now / 8) c.args.num_hashes (content c.args.words.now)
    c.args.hashes.now (sym c.all_are_set.ensures ∙ c.if-all_are_set.true)

pub returns-then-all_are_set-clause-content : goal.returns-then-all_are_set-clause-content
returns-then-all_are_set-clause-content c = λ p.
    let lines = length c.args.words.now / 8 in
    let k = c.args.num_hashes in
    let A = content c.args.words.now in
    many-contained (line_positions lines k) (λ hash. are_in_line lines k hash A) A p
    c.args.hashes.now (λ hash all. (line_subset_law lines k hash A).0 all p)
    (sym c.all_are_set.ensures ∙ c.if-all_are_set.true)
