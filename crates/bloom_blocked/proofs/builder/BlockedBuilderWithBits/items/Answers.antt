use Rattle.std.proofs.Common.{◌≡◌, subst}
use Rattle.bloom_blocked.proofs.Common.{InsertsItemsInLines, sized_in_lines, inserts_all-same}
use Rattle.bloom_plain.specs.SourceHash.{lent_hash_of}
use Rattle.bloom_blocked.proofs.builder.BlockedBuilderWithBits.items.Goals as goal

pub returns-clause-content : goal.returns-clause-content
returns-clause-content g c =
    let it = c.into_iter-items in
    let made = c.expected_items-filter in (
      it.result,
      it.ensures.into_iter_gives,
      inserts_all-same
          (InsertsItemsInLines (lent_hash_of g.S.BuildHasher g.S.Hasher.Hasher g.T.Hash.hash_input))
          g.I.IntoIter.Iterator.next_gives _ _ _ _
          (subst (λ n. made.result ≡ sized_in_lines c.args.self n) c.len.ensures.value
          made.ensures)
          c.insert_all.ensures,
    )
