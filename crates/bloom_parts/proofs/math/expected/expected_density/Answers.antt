use Rattle.std.proofs.Common.{◌*◌, arith, rules}
use Rattle.bloom_parts.proofs.BracketLemmas.{sets-fit, density-ordered, is-density}
use Rattle.bloom_parts.proofs.math.expected.expected_density.Goals as goal

-- the bounds of the density are ordered
pub new-requires-clause-ordered : goal.new-requires-clause-ordered
new-requires-clause-ordered c =
    rw (c.low_end.ensures.value, c.high_end.ensures.value)
    (density-ordered c.args.bits _ c.requires (sets-fit _ _ (omega arith) (omega arith)))

-- the bracket of these bounds is the density's
pub returns : goal.returns
returns c =
    is-density c.args.bits (c.args.hashes * c.args.items) c.requires
    (sets-fit _ _ (omega arith) (omega arith)) c.new.result (search rules) (search rules)
