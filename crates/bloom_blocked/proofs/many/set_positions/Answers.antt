use Rattle.std.proofs.Common.{◌≡◌, suc, ◌+◌, ◌*◌, ◌||◌, ◌==◌, length, refl, sym, ap, ◌∙◌, arith}
use Rattle.std.proofs.Math.Bool.{or-false, or_assoc}
use Rattle.bloom_parts.specs.Content.{content, index_of}
use Rattle.bloom_parts.specs.Places.{positions}
use Rattle.bloom_blocked.proofs.many.set_positions.Goals as goal

pub places-init : goal.places-init
unfolding positions
places-init c = record {
  stands = c.new-chain.ensures;
  content = λ p. sym (or-false (content c.args.words.now p));
  shape = refl;
}

pub places-preserved : goal.places-preserved
unfolding positions
places-preserved c =
    let old = content c.args.words.now in
    let n = 64 * length c.args.words.now in
    let k = c.places._place in
    let before = c.places.invariant in
    let size = ap (λ m. index_of (64 * m) c.next.result) before.shape in
    let here = size ∙ ap (index_of n) (c.next.ensures.value c.args.hash k before.stands) in
    let more : suc k ≡ k + 1 = omega arith in
    record {
      stands = c.next.ensures.moved c.args.hash k before.stands;
      content = λ p.
          c.set_position.ensures.content p
          ∙ ap (λ b. b || p == index_of (64 * length c.places.words) c.next.result)
          (before.content p)
          ∙ ap (λ q. (old p || positions n k c.args.hash p) || p == q) here
          ∙ or_assoc (old p) (positions n k c.args.hash p) _
          ∙ ap (λ m. old p || positions n m c.args.hash p) more;
      shape = c.set_position.ensures.shape ∙ before.shape;
    }

pub returns-clause-content : goal.returns-clause-content
returns-clause-content c =
    let all : c.places._place ≡ c.args.num_hashes = omega arith in
    rw (all) at c.places.invariant.content
