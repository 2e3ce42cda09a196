use Rattle.std.proofs.Common.{◌≡◌, length, rules, sym}
use Rattle.fastbloom_c.proofs.NoWordLemmas.{are_in-no_words}
use Rattle.fastbloom_c.proofs.hashes.fastbloom_contains_hash.Goals as goal

pub returns-then-is_empty-clause-found : goal.returns-then-is_empty-clause-found
returns-then-is_empty-clause-found c =
    let none : length c.args.words.now ≡ 0 = search rules in
    sym (are_in-no_words c.args.words.now c.args.num_hashes c.args.hash none)
