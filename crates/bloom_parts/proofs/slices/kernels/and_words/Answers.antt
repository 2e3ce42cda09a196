use Rattle.std.proofs.Common.{◌∙◌, arith}
use Rattle.std.specs.Int.Bits.{bit_and}
use Rattle.bloom_parts.proofs.MergeLemmas.{merged-all, merged-block, merged-set, merged-turn}
use Rattle.bloom_parts.proofs.slices.kernels.and_words.Goals as goal

pub parts-preserved : goal.parts-preserved
parts-preserved c = record {
  words =
      merged-block bit_and _ _ c.requires.lengths c.parts.part _ _ _ _ (omega arith)
      (omega arith) c.parts.invariant.words c.and_block.ensures.words;
  turns = omega arith;
}

pub groups-preserved : goal.groups-preserved
groups-preserved c = record {
  words =
      c.and_group.ensures.words
      ∙ merged-turn bit_and _ _ c.requires.lengths c.groups.group _ c.groups.invariant.words;
  turns = omega arith;
}

pub rest-preserved : goal.rest-preserved
rest-preserved c = record {
  words =
      rw c.rest.invariant.words
      (merged-set bit_and c.rest.place _ _ c.requires.lengths (omega arith));
  turns = omega arith;
}

pub returns-clause-words : goal.returns-clause-words
returns-clause-words c =
    c.rest.invariant.words
    ∙ merged-all bit_and c.rest.place _ _ c.requires.lengths (omega arith)
