use Rattle.std.proofs.Common.{◌+◌, ◌*◌, slice_index, count_ones, refl, sym, ◌∙◌, ap, arith}
use Rattle.bloom_parts.proofs.Common.{content, count_on}
use Rattle.bloom_parts.proofs.CountLemmas.{count-most, count-word}
use Rattle.bloom_parts.proofs.slices.count_ones.Goals as goal

pub words-init : goal.words-init
unfolding count_on
words-init c = record { counted = refl; most = omega arith }

pub words-preserved : goal.words-preserved
words-preserved c =
    let words = c.args.words.now in
    let i = c.words.word-index in
    let counted = ap (λ n. n + count_ones (slice_index words i)) c.words.invariant.counted
    ∙ sym (count-word words i (omega (arith, c.type_inv.words i))) in
    record {
      counted = counted;
      most = rw (counted) (count-most (content words) (64 * (i + 1)));
    }
