use Rattle.std.proofs.Common.{◌*◌, ◌||◌, length, ap, sym, ◌∙◌, eqb}
use Rattle.bloom_parts.specs.Content.{content, index_of}
use Rattle.bloom_parts.proofs.StretchLemmas.{positions_from-one, are_in_from-one}
use Rattle.bloom_parts.proofs.slices.positions.turn_on_next.Goals as goal

pub returns-clause-turns_on : goal.returns-clause-turns_on
returns-clause-turns_on c = λ hash i at.
    let n = 64 * length c.args.words.now in
    let old = content c.args.words.now in
    let here = ap (index_of n) (c.next.ensures.value hash i at) in
    record {
      answers = c.set_hash.ensures.reply ∙ ap old here ∙ sym (are_in_from-one n i hash old);
      bits = λ p.
          c.set_hash.ensures.content p
          ∙ ap (λ q. old p || eqb p q) here
          ∙ ap (λ b. old p || b) (sym (positions_from-one n i hash p));
      shape = c.set_hash.ensures.shape;
    }
