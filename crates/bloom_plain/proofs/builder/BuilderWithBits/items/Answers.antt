use Rattle.std.proofs.Common.{◌≡◌, subst}
use Rattle.bloom_plain.proofs.Common.{sized_filter, InsertsItems, lent_hash_of}
use Rattle.bloom_plain.proofs.BuilderLemmas.{inserts_all-same}
use Rattle.bloom_plain.proofs.builder.BuilderWithBits.items.Goals as goal

pub returns-clause-content : goal.returns-clause-content
returns-clause-content g c =
    let it = c.into_iter-items in
    let made = c.expected_items-filter in (
      it.result,
      it.ensures.into_iter_gives,
      inserts_all-same
          (InsertsItems (lent_hash_of g.S.BuildHasher g.S.Hasher.Hasher g.T.Hash.hash_input))
          g.I.IntoIter.Iterator.next_gives _ _ _ _
          (subst (λ n. made.result ≡ sized_filter c.args.self n) c.len.ensures.value made.ensures)
          c.insert_all.ensures,
    )
