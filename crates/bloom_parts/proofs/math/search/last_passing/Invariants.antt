use Rattle.bloom_parts.proofs.SearchLemmas.{IsSearching}
use Rattle.bloom_parts.proofs.math.search.last_passing.Given as goal

-- the number so far passes, the one a power of two above it does not, and each digit took one test
abbrev pub invariant-bits : goal.invariant-bits
invariant-bits g l =
    IsSearching (g.T.Side.passes l.fn.side) (g.T.Side.passes l.side) (g.T.Side.count l.side)
    l.found l.bit
