use Rattle.fastbloom.proofs.Common.{sized_filter, HasFormOf}
use Rattle.bloom_plain.specs.SourceHash.{lent_hash_of}
use Rattle.fastbloom.proofs.InsertedLemmas.{made_inserts-same}
use Rattle.fastbloom.proofs.builder.atomic_bits.AtomicBuilderWithBits.items.Goals as goal

pub returns-clause-form : goal.returns-clause-form
returns-clause-form g c =
    made_inserts-same (lent_hash_of g.S.BuildHasher g.S.Hasher.Hasher g.T.Hash.hash_input)
    c.in_ok-filter.filter _ (λ n. HasFormOf c.in_ok-filter.filter (sized_filter c.args.self n)) _
    g.I.IntoIter.Iterator.next_gives _ _ c.into_iter-items.ensures.into_iter_gives
    c.len.ensures.value c.in_ok-filter.ensures.form c.insert_all.ensures
