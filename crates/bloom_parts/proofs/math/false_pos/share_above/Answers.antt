use Rattle.std.proofs.Common.{◌≡◌, ◌+◌, ◌^◌, rules}
use Rattle.bloom_parts.proofs.RateEndLemmas.{raised, raised-fits}
use Rattle.bloom_parts.proofs.math.false_pos.share_above.Goals as goal

-- the greater share fits
pub returns-clause-fits : goal.returns-clause-fits
returns-clause-fits c =
    let is : c.args.high + c.div_ceil-more.result
    ≡ raised (2 ^ 63) c.args.bits c.args.hashes c.args.high = search rules in
    rw is
    (raised-fits (2 ^ 63) c.args.high c.args.bits c.args.hashes c.requires.bits c.requires.high)
