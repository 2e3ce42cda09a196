use Rattle.std.proofs.Common.{◌+◌, ◌*◌, arith, rules}
use Rattle.bloom_parts.proofs.SameLemmas.{same-front}
use Rattle.bloom_parts.proofs.slices.kernels.same_words.Goals as goal

pub groups-preserved : goal.groups-preserved
groups-preserved c = record {
  front =
      same-front (8 * c.groups.group) 8 (8 * (c.groups.group + 1)) c.args.words.now
      c.args.other.now (omega arith) c.groups.invariant.front (search rules);
  turns = omega arith;
}
