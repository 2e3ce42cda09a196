use Rattle.std.proofs.Common.{◌*◌, length, sym, ◌∙◌}
use Rattle.bloom_parts.proofs.Common.{content, are_in, positions}
use Rattle.bloom_parts.proofs.PlaceLemmas.{part-from}
use Rattle.bloom_parts.proofs.ManyLemmas.{many-contained}
use Rattle.bloom_parts.proofs.slices.many.insert_unless_present.Goals as goal

pub returns-else-not-all_are_set-clause-content : goal.returns-else-not-all_are_set-clause-content
returns-else-not-all_are_set-clause-content c = λ p.
    let n = 64 * length c.args.words.now in
    let k = c.args.num_hashes in
    let A = content c.args.words.now in
    many-contained (positions n k) (λ hash. are_in n k hash A) A p c.args.hashes.now
    (λ hash all. part-from n k hash A all p)
    (sym c.all_are_set.ensures ∙ c.if-not-all_are_set.false)
