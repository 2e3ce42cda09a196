use Rattle.std.proofs.Common.{◌/◌, ◌||◌, ◌&&◌, ◌==◌, ◌∷◌, [], not, length, slice_index, sym, ap, ◌∙◌, rules}
use Rattle.bloom_blocked.proofs.Common.{or-false, content, is_new, are_in_line, line_positions}
use Rattle.bloom_parts.proofs.PublishedLemmas.{bits-next, many-next, no-bit}
use Rattle.bloom_blocked.proofs.many.telling.insert_each_telling.Goals as goal

pub hashes-init : goal.hashes-init
hashes-init c = record {
  bits = no-bit _;
  content = λ p. sym (or-false (content c.args.words.now p));
  shape = search rules;
  at = search rules;
}

pub hashes-preserved : goal.hashes-preserved
hashes-preserved c =
    let on = line_positions (length c.args.words.now / 8) c.args.num_hashes in
    let is_in = are_in_line (length c.args.words.now / 8) c.args.num_hashes in
    let hashes = c.args.hashes.now in
    let A = content c.args.words.now in
    let i = c.hashes.hash-index in
    let before = c.hashes.invariant in
    let did = rw (before.shape) at c.insert_hash-was_set.ensures in
    let told = did.reply ∙ ap (is_in (slice_index hashes i)) (λ j p. before.content p j) in
    record {
      bits = bits-next (is_new on is_in A hashes) (content (c.hashes.fresh ∷ [])) _ i before.bits
          (λ p. (rw (before.at) at c.with_bit-fresh.ensures) p
          ∙ ap (λ b. content (c.hashes.fresh ∷ []) p || p == i && not b) told);
      content = many-next on A (content c.hashes.words) _ hashes i c.hashes-test.true
          before.content did.content;
      shape = search rules;
      at = search rules;
    }
