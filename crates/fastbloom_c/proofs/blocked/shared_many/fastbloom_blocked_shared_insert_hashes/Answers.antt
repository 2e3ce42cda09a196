use Rattle.std.proofs.Common.{◌≡◌, max, rules}
use Rattle.fastbloom_c.proofs.blocked.shared_many.fastbloom_blocked_shared_insert_hashes.Goals as goal

pub returns-clause-made : goal.returns-clause-made
returns-clause-made c = λ _.
    let words = c.in-Some.ensures in
    let k : c.max-num_hashes.result ≡ max 1 c.args.num_hashes = search rules in
    let vector = rw (words.at, words.len) at c.new-lent.ensures in
    rw (vector, k) at c.insert_hashes.ensures
