-- What the laws of inserts of many hashes give in one line, from premises that other facts hold in
-- place.
use Rattle.std.proofs.Common.{◌≡◌, ℕ, true, [], ◌∷◌, refl}
use Rattle.bloom_blocked.proofs.Common.{chain, content, are_in, Filter, InsertsAllInLines, in_lines, contains}
use Rattle.bloom_blocked.specs.BlockedLaws.{InsertsOneByOne, KeptByInsertsInLinesLaw, OneByOneLaw}
use Rattle.bloom_blocked.proofs.Cases.{zeros, with_one}

-- hash 1 stays contained under inserts of others
from_kept_by_inserts : KeptByInsertsInLinesLaw ℕ → (new : Filter ℕ)
    → InsertsAllInLines with_one (5 ∷ 6 ∷ []) new → contains in_lines new 1 ≡ true
unfolding content are_in chain
from_kept_by_inserts law new did = law with_one new (5 ∷ 6 ∷ []) 1 did refl

-- inserts of two hashes, one after the other or at once, set the same bits
from_one_by_one : OneByOneLaw ℕ → (one all : Filter ℕ) → InsertsOneByOne zeros (1 ∷ 5 ∷ []) one
    → InsertsAllInLines zeros (1 ∷ 5 ∷ []) all → content one.words 162 ≡ content all.words 162
from_one_by_one law one all did at_once = law zeros one all (1 ∷ 5 ∷ []) did at_once 162
