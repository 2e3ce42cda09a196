-- Rates of several filters together: of each definition cases that hold, and the nearest that
-- don't.
use Rattle.std.proofs.Common.{◌≡◌, ℕ, [], ◌∷◌, refl, arith, ◌≤◌, ◌^◌, lit≤}
use Rattle.bloom_growing.proofs.Common.{Bracket, Part, part_now, part_after, BoundsAny, parts_now, parts_grown}
use Rattle.bloom_growing.proofs.Cases.{grown, with_one, with_none}
use Rattle.bloom_growing.proofs.GrowingRateLemmas.{bounds-none}

-- the bracket of these bounds
abbrev bracket : (low high : ℕ) → low ≤ high → high ≤ 2 ^ 63 → Bracket
bracket low high ordered in_range =
    record { low = low; high = high; ordered = ordered; in_range = in_range }

-- the rates of a quarter and of three quarters
abbrev quarter : Part
quarter = record { found = 1; all = 4; low = 2305843009213693952; high = 2305843009213693952 }

abbrev three_quarters : Part
three_quarters =
    record { found = 3; all = 4; low = 6917529027641081856; high = 6917529027641081856 }

-- of no filter the rate is nothing. Of two it is at least the greater, wherever that stands, and at
-- most the sum, cut at one
bounds : BoundsAny [] (bracket 0 0 (lit≤ tt) (lit≤ tt))
    × (BoundsAny (quarter ∷ three_quarters ∷ [])
    (bracket 2305843009213693952 9223372036854775808 (lit≤ tt) (lit≤ tt)) → ⊥)
    × (BoundsAny (three_quarters ∷ three_quarters ∷ [])
    (bracket 6917529027641081856 9223372036854775807 (lit≤ tt) (lit≤ tt)) → ⊥)
    × (BoundsAny (quarter ∷ quarter ∷ [])
    (bracket 2305843009213693952 2305843009213693952 (lit≤ tt) (lit≤ tt)) → ⊥)
bounds = (
  bounds-none (bracket 0 0 (lit≤ tt) (lit≤ tt)) refl refl,
  λ is. omega (arith, is.low),
  λ is. omega (arith, is.high),
  λ is. omega (arith, is.high),
)

-- all filters count as they are, the oldest first
now : parts_now (grown (with_one ∷ []) with_none 2) ≡ part_now with_one ∷ part_now with_none ∷ []
now = refl

-- the full filters have the rooms 1 and 2, and the newest what it took
taken : parts_grown (grown (with_one ∷ with_none ∷ []) with_none 3)
    ≡ part_after with_one 1 ∷ part_after with_none 2 ∷ part_after with_none 3 ∷ []
taken = refl
