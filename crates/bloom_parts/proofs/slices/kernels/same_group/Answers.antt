use Rattle.std.proofs.lemmas.Simd.{length-chunk}
use Rattle.bloom_parts.proofs.SameLemmas.{same-lanes}
use lib.Lanes.{chunk}
use Rattle.bloom_parts.proofs.slices.kernels.same_group.Goals as goal

pub returns : goal.returns
returns c =
    let words = c.args.words.now in
    let other = c.args.other.now in
    same-lanes (chunk c.args.at 8 words) (chunk c.args.at 8 other)
    (length-chunk c.args.at 8 words c.requires.words)
    (length-chunk c.args.at 8 other c.requires.other)
