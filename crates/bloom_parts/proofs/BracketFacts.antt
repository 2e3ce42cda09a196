-- Brackets of densities and of rates at values from outside: for each definition that public
-- clauses cite a case that holds and cases as near as can be that don't.
use Rattle.std.proofs.Common.{◌≡◌, ◌+◌, ◌-◌, ◌^◌, refl, arith, lit<, lit≤}
use Rattle.bloom_parts.proofs.Common.{Bracket, count_on, sum_below, sum_draws, is_drawn, all_in, rounded_power, lower_power_of, upper_power_of}
use Rattle.bloom_parts.specs.Brackets.{low_of, high_of, width_of, Holds, HoldsDensity, HoldsRate, density_low, density_high, rate_low, rate_high}
use Rattle.bloom_parts.specs.FalsePositives.{HoldsFalsePositives, HoldsPositives, false_pos_high, false_pos_width, IsCapacity, positives_low, positives_high, BoundsPositives, HoldsEither, BoundsEither}
use Rattle.bloom_parts.proofs.Cases.{only, between, exactly, third}
use Rattle.bloom_parts.proofs.RateBoundLemmas.{either-between, positives-between}

ends-third : (low_of third ≡ 3074457345618258602) × (high_of third ≡ 3074457345618258603)
    × (width_of third ≡ 1)
ends-third = (refl, refl, refl)

-- a third lies between two units, and on neither
holds-cases : Holds third 1 3
    × (Holds (exactly 3074457345618258602 (lit≤ tt)) 1 3 → ⊥)
    × (Holds (exactly 3074457345618258603 (lit≤ tt)) 1 3 → ⊥)
holds-cases = (
  record { at_least = lit≤ tt; at_most = lit≤ tt },
  λ is. omega (arith, is.at_most),
  λ is. omega (arith, is.at_least),
)

-- the share of 64 bits after two were set is 127 / 4096
holds_density-cases : HoldsDensity (exactly 285978576338026496 (lit≤ tt)) 64 2
    × (HoldsDensity (exactly 285978576338026497 (lit≤ tt)) 64 2 → ⊥)
    × (HoldsDensity (exactly 285978576338026495 (lit≤ tt)) 64 2 → ⊥)
holds_density-cases = (
  record { at_least = lit≤ tt; at_most = lit≤ tt },
  λ is. omega (arith, is.at_least),
  λ is. omega (arith, is.at_most),
)

-- the rate of two hashes where two bits of 64 were set is the square of 127 / 4096, and where one
-- was it is the square of 1 / 64
holds_rate-cases : HoldsRate (exactly 8867011522199552 (lit≤ tt)) 64 2 2
    × (HoldsRate (exactly 8867011522199553 (lit≤ tt)) 64 2 2 → ⊥)
    × (HoldsRate (exactly 8867011522199551 (lit≤ tt)) 64 2 2 → ⊥)
    × HoldsRate (exactly 2251799813685248 (lit≤ tt)) 64 1 2
holds_rate-cases = (
  record { at_least = lit≤ tt; at_most = lit≤ tt },
  λ is. omega (arith, is.at_least),
  λ is. omega (arith, is.at_most),
  record { at_least = lit≤ tt; at_most = lit≤ tt },
)

-- two of 64 bits, one of three, and many, where other ways to round come out elsewhere
density-ends : (density_low 64 2 ≡ 285978576338026496) × (density_high 64 2 ≡ 285978576338026496)
    × (density_low 3 1 ≡ 3074457345618258602) × (density_high 3 1 ≡ 3074457345618258603)
    × (density_low 1000 1001 ≡ 5835371729641738664)
    × (density_high 1000 1001 ≡ 5835371729641739423)
unfolding rounded_power
density-ends = (refl, refl, refl, refl, refl, refl)

-- seven hashes among 1024 bits after a hundred items
rate-ends : (rate_low 1024 700 7 ≡ 67513609598153215) × (rate_high 1024 700 7 ≡ 67513609598153226)
unfolding rounded_power
rate-ends = (refl, refl)

-- the power to 0 is one whole, and the last of the 128 binary digits of an exponent counts
power-ends : (lower_power_of 0 0 ≡ 2 ^ 63) × (upper_power_of 0 0 ≡ 2 ^ 63)
    × (lower_power_of (2 ^ 62) (2 ^ 127) ≡ 0) × (upper_power_of (2 ^ 62) (2 ^ 127) ≡ 1)
unfolding rounded_power
power-ends = (refl, refl, refl, refl)

-- the rate of two draws among two positions and a query of two is 10 / 16
holds_false_positives-cases : HoldsFalsePositives (exactly 5764607523034234880 (lit≤ tt)) 2 2 2
    × (HoldsFalsePositives (exactly 5764607523034234881 (lit≤ tt)) 2 2 2 → ⊥)
    × (HoldsFalsePositives (exactly 5764607523034234879 (lit≤ tt)) 2 2 2 → ⊥)
unfolding sum_below sum_draws is_drawn all_in
holds_false_positives-cases = (
  record { at_least = lit≤ tt; at_most = lit≤ tt },
  λ is. omega (arith, is.at_least),
  λ is. omega (arith, is.at_most),
)

-- a set of one of four positions finds one of the 16 queries of two
holds_positives-cases : HoldsPositives (exactly 576460752303423488 (lit≤ tt)) 4 2 (only 3)
    × (HoldsPositives (exactly 576460752303423489 (lit≤ tt)) 4 2 (only 3) → ⊥)
    × (HoldsPositives (exactly 576460752303423487 (lit≤ tt)) 4 2 (only 3) → ⊥)
unfolding sum_below sum_draws all_in
holds_positives-cases = (
  record { at_least = lit≤ tt; at_most = lit≤ tt },
  λ is. omega (arith, is.at_least),
  λ is. omega (arith, is.at_most),
)

-- the upper ends of the rates whose lower ends are those of the classical formula
false_pos_high-cases : (false_pos_high 64 0 3 ≡ 0) × (false_pos_high 64 2 2 ≡ 13725461381120000)
    × (false_pos_high 1024 700 7 ≡ 68936744759523058)
    × (false_pos_high 1000 1001 13 ≡ 25110054965591681)
unfolding rounded_power
false_pos_high-cases = (refl, refl, refl, refl)

false_pos_width-case : false_pos_width 1024 700 7 ≡ 189151184349570632
false_pos_width-case = refl

-- the ends for twelve and for thirteen items of four hashes in 64 bits
ends-of_items : (false_pos_high 64 48 4 ≡ 792596453736758122)
    × (false_pos_high 64 52 4 ≡ 969688728801883019)
unfolding rounded_power
ends-of_items = (refl, refl)

-- at a rate of 1 / 10 these bits take twelve items, and neither eleven nor thirteen
is_capacity-cases : IsCapacity 64 4 1 10 12
    × (IsCapacity 64 4 1 10 11 → ⊥)
    × (IsCapacity 64 4 1 10 13 → ⊥)
is_capacity-cases = (
  record {
    takes = rw ends-of_items.0 (lit≤ tt);
    last = λ _ more. omega (arith, rw ends-of_items.1 at more);
  },
  λ is. is.last (lit< tt) (rw ends-of_items.0 (lit≤ tt)),
  λ is. omega (arith, rw ends-of_items.1 at is.takes),
)

-- two thirds, and the power to seven of a hundred of 192, rounded either way
positives-ends : (positives_low 3 1 2 ≡ 6148914691236517205)
    × (positives_high 3 1 2 ≡ 6148914691236517206)
    × (positives_low 192 7 100 ≡ 95891723822588019)
    × (positives_high 192 7 100 ≡ 95891723822588021)
unfolding rounded_power
positives-ends = (refl, refl, refl, refl)

-- sets of two of three positions answer two thirds of the queries of one
abbrev two_thirds : Bracket
two_thirds = between 6148914691236517205 6148914691236517206 (lit≤ tt) (lit≤ tt)

bounds_positives-cases : BoundsPositives 3 1 2 two_thirds
    × (BoundsPositives 3 1 2 (between 6148914691236517204 6148914691236517206 (lit≤ tt) (lit≤ tt))
    → ⊥)
    × (BoundsPositives 3 1 2 (between 6148914691236517205 6148914691236517207 (lit≤ tt) (lit≤ tt))
    → ⊥)
unfolding rounded_power
bounds_positives-cases = (
  record {
    holds =
        positives-between two_thirds 3 1 2 (lit< tt)
        (record { at_least = lit≤ tt; at_most = lit≤ tt });
    low = refl;
    high = refl;
    width = lit≤ tt;
  },
  λ is. omega (arith, is.low),
  λ is. omega (arith, is.high),
)

-- a half of the queries passes either test, and so between a half and all pass one of both
abbrev half : Bracket
half = exactly (2 ^ 62) (lit≤ tt)

bounds_either-cases : BoundsEither half half (between (2 ^ 62) (2 ^ 63) (lit≤ tt) (lit≤ tt))
    × (HoldsEither half half (between (2 ^ 62) (2 ^ 63 - 1) (lit≤ tt) (lit≤ tt)) → ⊥)
    × (HoldsEither half half (between (2 ^ 62 + 1) (2 ^ 63) (lit≤ tt) (lit≤ tt)) → ⊥)
    × (BoundsEither half half (between 0 (2 ^ 63) (lit≤ tt) (lit≤ tt)) → ⊥)
unfolding count_on
bounds_either-cases = (
  record {
    holds =
        either-between half half (between (2 ^ 62) (2 ^ 63) (lit≤ tt) (lit≤ tt)) refl refl;
    low = refl;
    high = refl;
  },
  λ holds. omega (arith, (holds 2 (only 0) (only 1) one one).at_most),
  λ holds. omega (arith, (holds 2 (only 0) (only 0) one one).at_least),
  λ is. omega (arith, is.low),
)
  where
    one : Holds half 1 2
    one = record { at_least = lit≤ tt; at_most = lit≤ tt }
