use Rattle.std.proofs.Common.{refl, subst}
use Rattle.bloom_blocked.proofs.Common.{IsMadeInLinesFor, InsertsItemsInLines, inserts_all-same}
use Rattle.bloom_plain.specs.SourceHash.{lent_hash_of}
use Rattle.bloom_blocked.proofs.builder.rate.BlockedBuilderWithFalsePositiveRate.items.Goals as goal

pub returns-clause-content : goal.returns-clause-content
returns-clause-content g c =
    let it = c.into_iter-items in
    let made = c.in_ok-filter in (
      it.result,
      it.ensures.into_iter_gives,
      made.filter,
      subst (λ n. IsMadeInLinesFor c.args.self n made.filter) c.len.ensures.value made.ensures.made,
      inserts_all-same
          (InsertsItemsInLines (lent_hash_of g.S.BuildHasher g.S.Hasher.Hasher g.T.Hash.hash_input))
          g.I.IntoIter.Iterator.next_gives _ _ _ _ refl c.insert_all.ensures,
    )
