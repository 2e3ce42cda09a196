use Rattle.std.proofs.Common.{◌*◌, arith, rules}
use Rattle.bloom_parts.proofs.RateBoundLemmas.{rate-between, rate-near}
use Rattle.bloom_parts.proofs.math.false_pos.false_pos_bounds.Goals as goal

-- the rate lies between the powers
pub returns-clause-holds : goal.returns-clause-holds
returns-clause-holds c =
    let density = c.expected_density-density in
    rate-between density.result c.expected_false_pos.result c.args.bits
    (c.args.hashes * c.args.items) c.args.hashes c.requires (omega arith) density.ensures.holds
    (search rules) (search rules)

-- they are as far apart as the shares let them be
pub returns-clause-width : goal.returns-clause-width
returns-clause-width c =
    let density = c.expected_density-density in
    let rate = c.expected_false_pos in
    rate-near density.result c.new.result rate.result c.args.bits
    (c.args.hashes * c.args.items) c.args.hashes c.requires density.ensures.holds
    density.ensures.width density.ensures.width_none (search rules) (search rules)
    rate.ensures.width rate.ensures.width_none
