use Rattle.std.proofs.Common.{ap, subst}
use Rattle.bloom_parts.specs.Hashed.{finish, write}
use Rattle.bloom_growing.specs.Rotating.{Receives}
use Rattle.duplicates_engine.proofs.AlwaysLemmas.{keeps-hash}
use Rattle.duplicates_engine.proofs.RotatingLemmas.{tells-new, recalls-more}
use Rattle.duplicates_engine.proofs.rotating.RotatingFilterOfSieve.sift.Goals as goal

pub returns-clause-sifted : goal.returns-clause-sifted
returns-clause-sifted g c =
    subst (λ hash. Receives g.F.GrowableFilter.kind c.args.self.now hash c.insert_hash.new.self
    c.insert_hash.result)
    c.requires c.insert_hash.ensures

pub returns-clause-new : goal.returns-clause-new
returns-clause-new g c = λ is lines came.
    tells-new (λ line. finish (write c.args.self.now.setup.hasher.hasher line))
    g.F.GrowableFilter.kind came.0
    c.args.self.now c.args._line.now c.insert_hash.result c.rotating_recent_stays_found.ensures
    (returns-clause-sifted g c).answers is lines came.1

pub returns-clause-taken : goal.returns-clause-taken
returns-clause-taken g c = λ lines came.
    recalls-more g.F.GrowableFilter.kind (λ s line. finish (write s.hasher line)) c.args.self.now
    c.insert_hash.new.self lines
    c.args._line.now c.insert_hash.result (returns-clause-sifted g c) came

pub returns-clause-hashes : goal.returns-clause-hashes
returns-clause-hashes g c =
    keeps-hash (λ s line. finish (write s.hasher line))
    (ap (λ setup. setup.hasher) c.insert_hash.ensures.setup)
