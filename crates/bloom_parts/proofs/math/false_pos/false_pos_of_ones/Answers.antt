use Rattle.std.proofs.Common.{◌≡◌, ◌*◌, ◌/◌, ◌^◌, arith, rules}
use Rattle.bloom_parts.proofs.Common.{div_ceil, Holds}
use Rattle.bloom_parts.proofs.RateBoundLemmas.{share-low, share-high, share-apart, width-twice, positives-between}
use Rattle.bloom_parts.proofs.math.false_pos.false_pos_of_ones.Goals as goal

-- the share lies between its roundings, so its power does between theirs
pub returns : goal.returns
returns c =
    let rate = c.expected_false_pos in
    let bits = c.args.bits in
    let ones = c.args.ones in
    let shares = c.new.result in
    let low_is : shares.low ≡ 2 ^ 63 * ones / bits = search rules in
    let high_is : shares.high ≡ div_ceil (2 ^ 63 * ones) bits = search rules in
    let holds_share : Holds shares ones bits = record {
      at_least = rw low_is (share-low bits ones);
      at_most = rw high_is (share-high bits ones c.requires.bits);
    } in
    record {
      holds = positives-between rate.result bits c.args.hashes ones c.requires.bits
          (rate.ensures.holds ones bits c.requires.bits holds_share);
      low = search rules;
      high = search rules;
      width = width-twice rate.result c.args.hashes
          (omega (arith, low_is, high_is, share-apart bits ones)) rate.ensures.width;
    }
