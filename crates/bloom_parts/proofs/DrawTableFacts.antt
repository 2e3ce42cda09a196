-- How many pairs of draws and a query are a false positive, for up to three positions, draws and
-- positions of a query. dev/draws counts the pairs one after the other.
use Rattle.std.proofs.Common.{◌≡◌, refl}
use Rattle.bloom_parts.specs.Draws.{sum_below, sum_draws, is_drawn, all_in, false_positives}

-- among one position
counts-one : (false_positives 1 1 1 ≡ 1)
    × (false_positives 1 1 2 ≡ 1)
    × (false_positives 1 1 3 ≡ 1)
    × (false_positives 1 2 1 ≡ 1)
    × (false_positives 1 2 2 ≡ 1)
    × (false_positives 1 2 3 ≡ 1)
    × (false_positives 1 3 1 ≡ 1)
    × (false_positives 1 3 2 ≡ 1)
    × (false_positives 1 3 3 ≡ 1)
unfolding sum_below sum_draws is_drawn all_in
counts-one = (refl, refl, refl, refl, refl, refl, refl, refl, refl)

-- among two positions
counts-two : (false_positives 2 1 1 ≡ 2)
    × (false_positives 2 1 2 ≡ 2)
    × (false_positives 2 1 3 ≡ 2)
    × (false_positives 2 2 1 ≡ 6)
    × (false_positives 2 2 2 ≡ 10)
    × (false_positives 2 2 3 ≡ 18)
    × (false_positives 2 3 1 ≡ 14)
    × (false_positives 2 3 2 ≡ 26)
    × (false_positives 2 3 3 ≡ 50)
unfolding sum_below sum_draws is_drawn all_in
counts-two = (refl, refl, refl, refl, refl, refl, refl, refl, refl)

-- among three positions
counts-three : (false_positives 3 1 1 ≡ 3)
    × (false_positives 3 1 2 ≡ 3)
    × (false_positives 3 1 3 ≡ 3)
    × (false_positives 3 2 1 ≡ 15)
    × (false_positives 3 2 2 ≡ 27)
    × (false_positives 3 2 3 ≡ 51)
    × (false_positives 3 3 1 ≡ 57)
    × (false_positives 3 3 2 ≡ 129)
    × (false_positives 3 3 3 ≡ 309)
unfolding sum_below sum_draws is_drawn all_in
counts-three = (refl, refl, refl, refl, refl, refl, refl, refl, refl)
