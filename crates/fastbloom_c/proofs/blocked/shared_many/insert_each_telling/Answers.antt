use Rattle.std.proofs.Common.{◌≡◌, Bool, arith, length, not, rules, slice_index, subst}
use Rattle.bloom_blocked.specs.LineSteps.{SetsInTurn}
use Rattle.fastbloom_c.specs.Passed.{vector_of}
use Rattle.fastbloom_c.proofs.SharedLemmas.{reply-of-bit, tells-all, tells-next, tells-none}
use Rattle.fastbloom_c.proofs.blocked.shared_many.insert_each_telling.Goals as goal

pub hashes-init : goal.hashes-init
hashes-init c = record {
  tells = tells-none _ _ _ _ c.clear.ensures.content;
  shape = search rules;
  at = search rules;
}

pub hashes-preserved : goal.hashes-preserved
hashes-preserved c =
    let before = c.hashes.invariant in
    let i = c.hashes.hash-index in
    let v = vector_of c.args.words.now.at c.args.words.now.len in
    let k = c.args.num_hashes in
    let hash = slice_index c.args.hashes.now i in
    let was = c.set_in_turn-was_set.result in
    let last = c.set_in_turn-was_set.new.turn in
    let did = subst (λ (b : Bool). SetsInTurn v k hash b c.hashes.turn last) (reply-of-bit was)
    (rw (c.new.ensures) at c.set_in_turn-was_set.ensures) in
    record {
      tells = tells-next _ _ i _ _ (not was) _ _ before.tells did
          (rw (before.at) at c.turn_on_where.ensures.content);
      shape = search rules;
      at = search rules;
    }

pub returns-clause-fresh : goal.returns-clause-fresh
returns-clause-fresh c =
    let end = c.hashes.invariant in
    let all : c.hashes.hash-index ≡ length c.args.hashes.now = omega arith in
    tells-all _ _ c.hashes.hash-index _ _ all end.tells
