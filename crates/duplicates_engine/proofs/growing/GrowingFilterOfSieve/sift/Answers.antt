use Rattle.std.proofs.Common.{subst}
use Rattle.std.specs.Prelude.{IfOk}
use Rattle.bloom_parts.specs.Hashed.{finish, write}
use Rattle.bloom_growing.specs.GrowingInserts.{Accepts}
use Rattle.duplicates_engine.proofs.GrownLemmas.{hashes-ok, new-ok, taken-ok}
use Rattle.duplicates_engine.proofs.growing.GrowingFilterOfSieve.sift.Goals as goal

pub returns-clause-sifted : goal.returns-clause-sifted
returns-clause-sifted g c =
    subst (λ hash. IfOk c.insert_hash.result (λ reply.
    Accepts g.F.GrowableFilter.kind c.args.self.now hash c.insert_hash.new.self reply))
    c.requires c.insert_hash.ensures.takes

pub returns-clause-new : goal.returns-clause-new
returns-clause-new g c =
    new-ok g.F.GrowableFilter.kind (λ s line. finish (write s.hasher line)) _ _ _
    c.insert_hash.result
    (returns-clause-sifted g c)

pub returns-clause-taken : goal.returns-clause-taken
returns-clause-taken g c =
    taken-ok g.F.GrowableFilter.kind (λ s line. finish (write s.hasher line)) _ _ _
    c.insert_hash.result
    (returns-clause-sifted g c) c.growing_inserted_stays_found.ensures.found
    c.growing_inserted_stays_found.ensures.kept

pub returns-clause-hashes : goal.returns-clause-hashes
returns-clause-hashes g c =
    hashes-ok g.F.GrowableFilter.kind (λ s line. finish (write s.hasher line)) _ _ _
    c.insert_hash.result
    (returns-clause-sifted g c) c.insert_hash.ensures.unchanged
