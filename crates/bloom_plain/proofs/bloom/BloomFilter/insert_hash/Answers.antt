use Rattle.std.proofs.Common.{◌≡◌, refl, sym, subst, arith}
use Rattle.bloom_plain.specs.Filter.{Filter, Inserts, anywhere}
use Rattle.bloom_plain.proofs.ReplyLemmas.{carries_out-insert}
use Rattle.bloom_plain.proofs.bloom.BloomFilter.insert_hash.Goals as goal

pub returns-clause-inserts : goal.returns-clause-inserts
returns-clause-inserts g c =
    let did = c.insert_positions in
    let inside = c.self.inside in
    let new : Filter g.row.S.Denot =
    record { words = did.new.self; hashes = inside.num_hashes; hasher = inside.hasher } in
    let same : c.max-num_hashes.result ≡ inside.num_hashes =
    omega (arith, c.max-num_hashes.ensures, c.self.invariant.some_hashes) in
    subst (λ old. Inserts anywhere old c.args.hash new did.result) c.self.view_is (record {
      answers = rw (sym same) did.ensures.reply;
      bits = λ p. rw (sym same) (did.ensures.content p);
      shape = record { words = sym did.ensures.shape; hashes = refl };
      hasher = refl;
    })

pub returns-clause-same : goal.returns-clause-same
returns-clause-same g c = carries_out-insert _ _ _ _ (returns-clause-inserts g c)
