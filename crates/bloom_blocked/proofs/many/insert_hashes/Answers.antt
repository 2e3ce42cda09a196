use Rattle.std.proofs.Common.{◌≡◌, ◌+◌, ◌*◌, ◌/◌, length, ◌∙◌, arith}
use Rattle.bloom_blocked.proofs.Common.{take-length, content, many-stretch, line_positions}
use Rattle.bloom_blocked.proofs.many.insert_hashes.Goals as goal

pub turns-preserved : goal.turns-preserved
turns-preserved c =
    let at = 64 * c.turns.turn in
    let next : 64 * (c.turns.turn + 1) ≡ at + 64 = omega arith in
    record {
      content = rw (next)
          (many-stretch (line_positions _ _) (content c.args.words.now) (content c.turns.words) _
          c.args.hashes.now at (at + 64) (omega arith) c.turns.invariant.content
          (rw (← c.turns.invariant.shape) c.insert_unless_full-look_up.ensures.content));
      shape = c.insert_unless_full-look_up.ensures.shape ∙ c.turns.invariant.shape;
    }

pub returns-clause-content : goal.returns-clause-content
returns-clause-content c =
    let hashes = c.args.hashes.now in
    let all : c.turns.turn ≡ length hashes / 64 = omega arith in
    let whole = many-stretch (line_positions (length c.args.words.now / 8) c.args.num_hashes)
    (content c.args.words.now) (content c.turns.words) _ hashes
    (64 * (length hashes / 64)) (length hashes) (omega arith)
    (rw (all) at c.turns.invariant.content)
    (rw (c.turns.invariant.shape) at c.insert_unless_full.ensures.content) in
    rw (take-length hashes) at whole
