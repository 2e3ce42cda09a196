use Rattle.std.proofs.Common.{refl, add-one}
use Rattle.bloom_parts.specs.Chain.{chain}
use Rattle.bloom_parts.proofs.hasher.chain.DoubleHasher.next.Goals as goal

pub returns-clause-value : goal.returns-clause-value
returns-clause-value c = λ hash i at. at.newest

pub returns-clause-moved : goal.returns-clause-moved
unfolding chain
returns-clause-moved c = λ hash i at. record {
  newest = rw (add-one, c.rotate_left.ensures, at.newest, at.added) refl;
  added = at.added;
}
