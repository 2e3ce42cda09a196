use Rattle.std.proofs.Common.{◌∙◌, ap, arith, refl, rules}
use Rattle.fastbloom.proofs.ReadingLemmas.{read-loaded, read-whole}
use Rattle.fastbloom.proofs.atomic.AtomicBloomFilter.try_clone.Goals as goal

pub from_words-requires-clause-fits : goal.from_words-requires-clause-fits
from_words-requires-clause-fits g c = λ run seen from whole.
    let iter = c.iter.ensures in
    let size = read-whole run _ _ from iter.vector iter.next (search rules) in
    (omega (arith, size, iter.least), omega (arith, size, iter.most))

pub returns-clause-began : goal.returns-clause-began
returns-clause-began g c =
    let iter = c.iter.ensures in
    let made = c.in_ok-words.ensures.words in
    let vector = iter.vector ∙ ap (λ f. f.words) c.self.view_is in
    (made.0.items, read-loaded made.0 _ _ _ made.1 vector iter.next made.2 refl, made.3)

pub returns-clause-words : goal.returns-clause-words
returns-clause-words g c =
    let iter = c.iter.ensures in
    let made = c.in_ok-words.ensures.count in
    made.3 ∙ read-whole made.0 _ _ made.1 iter.vector iter.next made.2
    ∙ ap (λ f. f.words.count) c.self.view_is
