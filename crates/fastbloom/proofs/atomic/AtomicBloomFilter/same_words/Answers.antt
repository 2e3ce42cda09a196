use Rattle.std.proofs.Common.{ap, subst, arith, rules}
use Rattle.bloom_parts.specs.Made.{FoundByLoad}
use Rattle.fastbloom.proofs.ReadingLemmas.{below-next, loaded-of}
use Rattle.fastbloom.proofs.atomic.AtomicBloomFilter.same_words.Goals as goal

pub words-preserved : goal.words-preserved
words-preserved g c =
    let here = loaded-of c.words.word c.load.result c.self.view_is c.load.ensures in
    let there = loaded-of c.words.word _ c.other.view_is c.load-in-words.ensures in
    below-next _ c.words.word c.words.invariant
    (c.load.result, here, subst (FoundByLoad _ c.words.word) (search rules) there)

pub returns : goal.returns
returns g c =
    let count = ap (λ f. f.words.count) c.self.view_is in
    record {
      shape = c.same_shape.ensures.0 c.if-not-same_shape.false;
      words = λ i within. c.words.invariant i
          (omega (arith, within, count, c.len-word-end.ensures.value, c.words-test.false));
    }
