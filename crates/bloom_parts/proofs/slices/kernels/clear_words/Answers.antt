use Rattle.std.proofs.Common.{◌+◌, ◌*◌, ◌∙◌, refl, arith}
use Rattle.bloom_parts.proofs.ClearLemmas.{cleared-all, cleared-group, cleared-next}
use Rattle.bloom_parts.proofs.slices.kernels.clear_words.Goals as goal

pub groups-preserved : goal.groups-preserved
groups-preserved c = record {
  words =
      rw c.groups.invariant.words
      (cleared-group 8 (8 * c.groups.group) (8 * (c.groups.group + 1)) c.args.words.now
      (omega arith));
  turns = omega arith;
}

pub rest-preserved : goal.rest-preserved
rest-preserved c = record {
  words =
      rw c.rest.invariant.words
      (cleared-next c.rest.place (c.rest.place + 1) c.args.words.now refl);
  turns = omega arith;
}

pub returns-clause-words : goal.returns-clause-words
returns-clause-words c =
    c.rest.invariant.words ∙ cleared-all c.rest.place c.args.words.now (omega arith)
