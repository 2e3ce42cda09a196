use Rattle.std.proofs.Common.{◌∙◌, ◌-◌, ap, arith, vec_len}
use Rattle.fastbloom.proofs.DataLemmas.{never_refused}
use Rattle.fastbloom.proofs.ReadingLemmas.{read-loaded}
use Rattle.fastbloom.proofs.atomic.data.AtomicBloomFilter.to_data.Goals as goal

pub returns-clause-words : goal.returns-clause-words
returns-clause-words c =
    let iter = c.iter.ensures in
    let made = c.in_ok-bits.ensures in
    let vector = iter.vector ∙ ap (λ f. f.words) c.self.view_is in
    read-loaded made.0 _ _ _ made.1 vector iter.next made.2 made.3.0

pub returns-clause-good : goal.returns-clause-good
returns-clause-good c =
    let count = (returns-clause-words c).count in
    let same = ap (λ f. f.words.count) c.self.view_is in
    never_refused (vec_len c.in_ok-bits.bits) c.self.inside.words.count
    (c.self.inside.num_hashes - 1) (omega (arith, count, same, c.in_ok-bits.bits.ok))
    c.iter.ensures.least c.iter.ensures.most (omega (arith, c.self.invariant))
