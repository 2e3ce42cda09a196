-- Laws of draws at small numbers, counted by a program in another language: of two draws among two
-- positions, and queries of two positions.
use Rattle.std.proofs.Common.{◌≡◌, ◌*◌, ◌≤◌, ltb, lit<}
use Rattle.bloom_parts.proofs.Common.{count_on, sum_below, sum_draws, is_drawn, positives, false_positives, ListsLaw, MeanLaw, PositivesLaw, PowersLaw, FormulaLaw, UpperLaw}

-- there are eight lists of three draws
from_lists : ListsLaw → sum_draws 2 3 (λ _. 1) ≡ 8
from_lists law = law 2 3

-- together the four lists have drawn six positions
from_mean : MeanLaw → sum_draws 2 2 (λ d. count_on (is_drawn d) 2) ≡ 6
from_mean law = law 2 2 (lit< tt)

-- of the nine queries of two among three positions, four lie in a set of two
from_positives : PositivesLaw → positives 3 2 (λ p. ltb p 2) ≡ 4
unfolding count_on
from_positives law = law 3 2 (λ p. ltb p 2)

-- of 16 pairs ten are a false positive
from_powers : PowersLaw → false_positives 2 2 2 ≡ 10
unfolding sum_below sum_draws is_drawn count_on
from_powers law = law 2 2 2

-- that are 160 / 256, more than the 144 of the classical formula
from_formula : FormulaLaw → 144 ≤ false_positives 2 2 2 * 16
from_formula law = law 2 2 2 (lit< tt)

-- and 2560 / 4096, less than the 2704 of the greater share
from_upper : UpperLaw → false_positives 2 2 2 * 256 ≤ 2704
from_upper law = law 2 2 2 (lit< tt)
