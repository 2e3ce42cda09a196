use Rattle.std.proofs.Common.{◌∙◌, arith}
use Rattle.std.specs.Int.Bits.{bit_or}
use Rattle.bloom_parts.proofs.MergeLemmas.{merged-all, merged-turn}
use Rattle.bloom_parts.proofs.slices.kernels.or_block.Goals as goal

pub groups-preserved : goal.groups-preserved
groups-preserved c = record {
  words =
      c.or_group-turns.ensures.words
      ∙ merged-turn bit_or _ _ (omega arith) c.groups.group _ c.groups.invariant.words;
  turns = omega arith;
}

pub returns-clause-words : goal.returns-clause-words
returns-clause-words c =
    c.groups.invariant.words
    ∙ merged-all bit_or _ c.args.words.now c.args.other.now (omega arith) (omega arith)
