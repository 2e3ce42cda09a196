use Rattle.duplicates_engine.proofs.PlainLemmas.{sifted-plain}
use Rattle.duplicates_engine.proofs.laws.plain_filter_inserts.Goals as goal

pub returns : goal.returns
returns g c = sifted-plain g.S.Hasher.Hasher g.S.BuildHasher.build_hasher c.lists_join.ensures
