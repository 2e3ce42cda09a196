use Rattle.std.proofs.Common.{◌≡◌, ◌∙◌, get_or, arith}
use Rattle.std.proofs.lemmas.Grind.{common_steps}
use Rattle.examples.proofs.KnownLemmas.{known-next, known-all}
use Rattle.examples.proofs.two.insert_all.Goals as goal

-- the next hash is known too
pub hashes-preserved : goal.hashes-preserved
hashes-preserved c =
    let is : c.index.result.now ≡ get_or c.args.hashes.items c.hashes.i 0 =
    grind (arith, common_steps, c.index.ensures) in (
      c.insert_hash_as.ensures.same.filter ∙ c.hashes.invariant.0,
      known-next c.args.filter.now c.hashes.pass c.insert_hash_as.new.pass c.args.hashes.items _
          _ _ (omega arith) is c.hashes.invariant.1 c.insert_hash_as.ensures.inserts,
    )

-- in the end all hashes are known
pub returns-clause-known : goal.returns-clause-known
returns-clause-known c =
    known-all c.args.filter.now c.hashes.pass c.args.hashes.items c.hashes.i (omega arith)
    c.hashes.invariant.1
