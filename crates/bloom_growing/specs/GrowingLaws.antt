-- Laws of filters that grow, over what the contracts of the calls state. A hash may be any number.
use Rattle.std.specs.Prelude.{◌≡◌, ℕ, zero, suc, ◌+◌, ◌*◌, ◌<◌, Bool, List, [], ◌∷◌}
use Rattle.bloom_parts.specs.Rates.{num_of, den_of}
use Rattle.bloom_parts.specs.declared.math.rate.Rate.{Rate}
use Rattle.bloom_growing.specs.Growing.{Growing, den_at}
use Rattle.bloom_growing.specs.GrowingInserts.{Accepts}
use Rattle.bloom_growing.specs.Kinds.{Kind}

-- from old to new the hashes of a list came, in order
abbrev pub AcceptsAll : {S : Type 0} → Kind → Growing S → List ℕ → Growing S → Type 0
AcceptsAll kind old [] new = new ≡ old
AcceptsAll {S} kind old (hash ∷ later) new = (next : Growing S) × (reply : Bool)
    × Accepts kind old hash next reply × AcceptsAll kind next later new

-- the sum of the rates that the first m filters are sized for, as a fraction: its upper and its
-- lower part
abbrev pub sum_of_rates : Rate → ℕ → ℕ × ℕ
sum_of_rates rate zero = (0, 1)
sum_of_rates rate (suc m) =
    let sum = sum_of_rates rate m in
    (sum.0 * den_at rate m + num_of rate * sum.1, sum.1 * den_at rate m)

-- the rates that the filters are sized for, however many they are, sum to less than the rate asked
-- for
abbrev pub RatesBelowLaw : Type 0
RatesBelowLaw = (rate : Rate) (m : ℕ)
    → (sum_of_rates rate m).0 * den_of rate < num_of rate * (sum_of_rates rate m).1
