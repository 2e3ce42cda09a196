use Rattle.std.proofs.Common.{rules}
use Rattle.bloom_parts.proofs.RateBoundLemmas.{either-between}
use Rattle.bloom_parts.proofs.math.false_pos.false_pos_of_either.Goals as goal

-- the part lies between the greater lower end and the sum of the upper ones
pub returns : goal.returns
returns c = record {
  holds = either-between c.args.first c.args.second c.new.result (search rules) (search rules);
  low = search rules;
  high = search rules;
}
