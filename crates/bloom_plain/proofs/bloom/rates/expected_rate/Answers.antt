use Rattle.bloom_plain.proofs.RateLemmas.{rate-holds, rate-width}
use Rattle.bloom_plain.proofs.bloom.rates.expected_rate.Goals as goal

pub returns-clause-holds : goal.returns-clause-holds
returns-clause-holds c =
    let density = c.expected_density-density in
    rate-holds density.result c.expected_false_pos.result _ _ c.args.num_hashes c.requires
    density.ensures.holds c.expected_false_pos.ensures.holds

pub returns-clause-width : goal.returns-clause-width
returns-clause-width c =
    let density = c.expected_density-density in
    rate-width density.result c.expected_false_pos.result _ _ c.args.num_hashes
    density.ensures.holds density.ensures.width density.ensures.width_none
    c.expected_false_pos.ensures.width c.expected_false_pos.ensures.width_none
