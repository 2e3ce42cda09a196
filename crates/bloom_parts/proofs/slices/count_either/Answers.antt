use Rattle.std.proofs.Common.{◌*◌, ◌^◌, ◌<◌, ◌||◌, slice_index, refl, ◌∙◌, ap, arith}
use Rattle.bloom_parts.proofs.Common.{bit_or, zip2, content, count_on}
use Rattle.std.proofs.lemmas.Nat.{or_lt}
use Rattle.bloom_parts.proofs.CountLemmas.{count-same, count_merged-next}
use Rattle.bloom_parts.proofs.SetLemmas.{content-or}
use Rattle.bloom_parts.proofs.slices.count_either.Goals as goal

pub words-init : goal.words-init
unfolding count_on
words-init c = record { counted = refl; most = omega arith }

pub words-preserved : goal.words-preserved
words-preserved c =
    let words = c.args.words.now in
    let other = c.args.other.now in
    let at = c.words.at in
    let word : slice_index words at < 2 ^ 64 = omega (arith, c.type_inv.words at) in
    let beside : slice_index other at < 2 ^ 64 = omega (arith, c.type_inv.other at) in
    let fits = or_lt 64 (slice_index words at) (slice_index other at) word beside in
    let next = count_merged-next words other at c.requires.lengths (omega arith) fits in
    record {
      counted = omega (arith, next, c.words.invariant.counted, c.ones_in-count.ensures.value);
      most = omega (arith, c.words.invariant.most, c.ones_in-count.ensures.most);
    }

-- the merged words have the positions of both
pub returns-clause-count : goal.returns-clause-count
returns-clause-count c =
    let words = c.args.words.now in
    let other = c.args.other.now in
    c.words.invariant.counted
    ∙ count-same (content (zip2 bit_or words other)) _ (content-or words other c.requires.lengths)
    (64 * c.words.at)
    ∙ ap (λ n. count_on (λ p. content words p || content other p) (64 * n)) (omega arith)
