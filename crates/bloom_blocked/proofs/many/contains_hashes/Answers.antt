use Rattle.std.proofs.Common.{◌*◌, ◌/◌, length, arith, rules}
use Rattle.bloom_blocked.proofs.Common.{content, are_in_line}
use Rattle.bloom_blocked.proofs.TellLemmas.{found-part, tells-turn}
use Rattle.bloom_blocked.proofs.many.contains_hashes.Goals as goal

pub turns-preserved : goal.turns-preserved
turns-preserved c =
    let hashes = c.args.hashes.now in
    let turns = c.div_ceil-turns.ensures in
    let early = c.turns-test.true in
    let shape = c.turns.invariant.shape in
    record {
      bits = tells-turn hashes c.turns.found c.turns.turn c.min-end.result c.find_word.result _ _
          (omega (arith, shape, c.requires.room, early, turns)) c.min-end.ensures
          (omega (arith, early, turns))
          (λ q small. found-part (are_in_line (length c.args.words.now / 8) c.args.num_hashes)
          hashes (64 * c.turns.turn) _ q small (content c.args.words.now))
          c.turns.invariant.bits c.find_word.ensures;
      shape = search rules;
    }
