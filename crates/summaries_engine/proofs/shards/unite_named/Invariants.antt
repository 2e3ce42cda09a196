use Rattle.std.proofs.Common.{map, take}
use Rattle.summaries_engine.proofs.UnitingLemmas.{IsUniting}
use Rattle.summaries_engine.proofs.shards.unite_named.Given as goal

-- the filters so far lie under the names so far, and the whole is their union
abbrev pub invariant-names : goal.invariant-names
invariant-names g l =
    IsUniting (g.S.Shelf.has l.shelf) l.first.now
    (take l.name-index (map (λ name. name.now) l.others)) l.whole
