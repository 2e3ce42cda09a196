use Rattle.std.proofs.Common.{arith, rules}
use Rattle.bloom_parts.proofs.BracketLemmas.{power-ordered, is-power}
use Rattle.bloom_parts.proofs.math.expected.expected_false_pos.Goals as goal

-- the powers are ordered
pub new-requires-clause-ordered : goal.new-requires-clause-ordered
new-requires-clause-ordered c =
    power-ordered c.args.density c.args.hashes (omega arith) _ _
    (rw c.low.ensures at c.lower_power-low.ensures.value)
    (rw c.high.ensures at c.upper_power-high.ensures.value)

-- the bracket of both powers is the power's
pub returns : goal.returns
returns c =
    is-power c.args.density c.args.hashes (omega arith) c.new.result (search rules) (search rules)
