use Rattle.std.proofs.Common.{◌≡◌, ◌≤◌, ◌*◌, ◌+◌, length, min, arith, rules}
use Rattle.bloom_blocked.proofs.Common.{take-length, content, many-stretch, are_in_line, line_positions}
use Rattle.bloom_blocked.proofs.TellLemmas.{new-part, tells-turn}
use Rattle.bloom_blocked.proofs.many.telling.insert_hashes_tell_new.Goals as goal

pub turns-preserved : goal.turns-preserved
turns-preserved c =
    let hashes = c.args.hashes.now in
    let at = 64 * c.turns.turn in
    let end = c.min-end.result in
    let turns = c.div_ceil-turns.ensures in
    let early = c.turns-test.true in
    let ended : end ≡ min (length hashes) (at + 64) = c.min-end.ensures in
    let next : min (length hashes) (64 * (c.turns.turn + 1)) ≡ end = omega (arith, ended) in
    let more : at ≤ length hashes = omega (arith, early, turns) in
    let first : min (length hashes) at ≡ at = omega (arith, more) in
    let before = rw (first) at c.turns.invariant.content in
    let did = rw (c.turns.invariant.words_shape) at c.insert_word_telling.ensures in
    let shape = c.turns.invariant.fresh_shape in
    record {
      bits = tells-turn hashes c.turns.fresh c.turns.turn end _ _ _
          (omega (arith, shape, c.requires.room, early, turns)) ended more
          (λ q small. new-part (are_in_line _ _) hashes at _ q small (line_positions _ _)
          _ (content c.turns.words) before) c.turns.invariant.bits did.fresh;
      content = rw (next)
          (many-stretch (line_positions _ _) _ (content c.turns.words) _ hashes at end
          (omega (arith, ended, more)) before did.content);
      words_shape = did.shape;
      fresh_shape = search rules;
    }

pub returns-clause-content : goal.returns-clause-content
returns-clause-content c =
    let hashes = c.args.hashes.now in
    let all : min (length hashes) (64 * c.turns.turn) ≡ length hashes =
    omega (arith, c.turns-test.false, c.div_ceil-turns.ensures) in
    rw (take-length hashes) at (rw (all) at c.turns.invariant.content)
