-- Estimates at small numbers, by hand: of 64 bits and one hash 1 is expected to be set after one
-- item, and 127 / 64 after two. For each definition that public clauses cite a case that holds, and
-- cases as near as can be that don't.
use Rattle.std.proofs.Common.{◌≡◌, ◌-◌, ◌*◌, ◌^◌, ◌<◌, ℕ, None, Some, refl, sym, ◌∙◌, ap, arith, unwrap_or, lit<, lit≤}
use Rattle.bloom_parts.proofs.Common.{le_refl, IsEstimate, IsTight, IsNear, EstimatesItems, DensityLaw, least_of, most_of, rounded_power}
use Rattle.std.proofs.lemmas.Option.{none-some}
use Rattle.bloom_parts.specs.Alike.{HoldsItems, HoldsCommon, HoldsPart, IsCommon, IsPartOf, EstimatesEach, EstimatesCommon, EstimatesLikeness, common_least, part_low}
use Rattle.bloom_parts.proofs.Cases.{between, exactly, third, from_to, just, from}
use Rattle.bloom_parts.proofs.EstimateLemmas.{is-estimate}

ends-one_to_two : (least_of (from_to 1 2 (lit≤ tt)) ≡ 1)
    × (most_of (from_to 1 2 (lit≤ tt)) ≡ Some 2)
    × (most_of (from 1) ≡ None)
ends-one_to_two = (refl, refl, refl)

-- one bit by one hash is one item. With two hashes an item sets more than one bit and none sets
-- less, no nearer bounds are left out, an upper bound is missing only where it has to be, and
-- bounds are no further apart than is said. No bit is no item, and of all bits there is no upper
-- bound
estimates_items-cases : EstimatesItems 64 1 1 (just 1)
    × (IsEstimate 64 2 1 1 (Some 1) → ⊥)
    × (IsEstimate 64 2 1 0 (Some 0) → ⊥)
    × (IsTight 64 1 1 0 (Some 1) → ⊥)
    × (IsTight 64 1 1 1 (Some 2) → ⊥)
    × (IsTight 64 1 63 (2 ^ 64 - 1) None → ⊥)
    × (IsNear 64 1 1939 (Some 1942) → ⊥)
    × (EstimatesItems 64 1 0 (from_to 0 1 (lit≤ tt)) → ⊥)
    × (EstimatesItems 64 1 64 (from_to 0 5 (lit≤ tt)) → ⊥)
unfolding rounded_power
estimates_items-cases = (
  record {
    fits =
        is-estimate 64 1 1 (lit< tt) (lit< tt) (lit< tt) 1 (lit< tt) (lit≤ tt) (Some 1) (lit< tt)
        (lit≤ tt);
    tight = record {
      low_last = λ _. lit< tt;
      high_first = λ _. lit< tt;
      none = λ is. absurd (none-some 1 (sym is));
    };
    near = lit≤ tt;
    none = λ is. absurd (omega (arith, is));
    all = λ is. absurd (omega (arith, is));
  },
  λ is. omega (arith, is.at_most),
  λ is. omega (arith, is.at_least),
  λ is. omega (arith, is.low_last (lit< tt)),
  λ is. omega (arith, is.high_first (lit< tt)),
  λ is. omega (arith, is.none refl),
  λ is. omega (arith, is),
  λ is. omega (arith, ap (λ most. unwrap_or most 0) (is.none refl).1),
  λ is. none-some 5 (sym (is.all refl)),
)

-- the density grows from each number of positions to a greater one
from_density : DensityLaw → (64 ^ 1 - 63 ^ 1) * 64 ^ 2 < (64 ^ 2 - 63 ^ 2) * 64 ^ 1
from_density law = law 64 1 2 (lit< tt) (lit< tt)

-- an estimate of one number holds it
holds-just : (items : ℕ) → HoldsItems (just items) items
holds-just items = record { at_least = le_refl items; at_most = le_refl items }

-- five and four, of which the union has six, have three in common: neither four nor two, and no
-- wider bounds
is_common-cases : IsCommon (just 5) (just 4) (just 6) (just 3)
    × (HoldsCommon (just 5) (just 4) (just 6) (just 4) → ⊥)
    × (HoldsCommon (just 5) (just 4) (just 6) (just 2) → ⊥)
    × (IsCommon (just 5) (just 4) (just 6) (from_to 2 3 (lit≤ tt)) → ⊥)
    × (IsCommon (just 5) (just 4) (just 6) (from_to 3 4 (lit≤ tt)) → ⊥)
is_common-cases = (
  record {
    holds = λ m n items first second both. record {
      at_least = omega (arith, first.at_least, second.at_least, both.at_most);
      at_most = omega (arith, first.at_most, second.at_most, both.at_least);
    };
    low = refl;
    high = refl;
  },
  λ holds. omega (arith, (holds 5 4 6 (holds-just 5) (holds-just 4) (holds-just 6)).at_least),
  λ holds. omega (arith, (holds 5 4 6 (holds-just 5) (holds-just 4) (holds-just 6)).at_most),
  λ is. omega (arith, is.low),
  λ is. omega (arith, ap (λ most. unwrap_or most 0) is.high),
)

-- one of three is a third, which lies between two units: no wider bounds are, and no one unit is
is_part_of-cases : IsPartOf (just 1) (just 3) third
    × (IsPartOf (just 1) (just 3) (record third { low = 3074457345618258601; ordered = lit≤ tt })
    → ⊥)
    × (IsPartOf (just 1) (just 3)
    (between 3074457345618258602 3074457345618258604 (lit≤ tt) (lit≤ tt)) → ⊥)
    × (HoldsPart (just 1) (just 3) (exactly 3074457345618258602 (lit≤ tt)) → ⊥)
is_part_of-cases = (
  record {
    holds = λ m n some all _ _. record {
      at_least = omega (arith, some.at_least, all.at_most);
      at_most = omega (arith, some.at_most, all.at_least);
    };
    low = refl;
    high = refl;
  },
  λ is. omega (arith, is.low),
  λ is. omega (arith, is.high),
  λ holds. omega (arith, (holds 1 3 (holds-just 1) (holds-just 3) (lit< tt) (lit≤ tt)).at_most),
)

each-one : EstimatesEach 64 1 1 1 1 (just 1) (just 1) (just 1)
each-one = record {
  of_first = estimates_items-cases.0;
  of_second = estimates_items-cases.0;
  of_all = estimates_items-cases.0;
}

common-one : IsCommon (just 1) (just 1) (just 1) (just 1)
common-one = record {
  holds = λ m n items first second both. record {
    at_least = omega (arith, first.at_least, second.at_least, both.at_most);
    at_most = omega (arith, first.at_most, second.at_most, both.at_least);
  };
  low = refl;
  high = refl;
}

-- two filters of the same bit have one item in common, and two of no bit have none; one item is
-- none of two bits, be they those of the first, the second or of both
estimates_common-cases : EstimatesCommon 64 1 1 1 1 (just 1)
    × (EstimatesCommon 64 1 0 0 0 (just 1) → ⊥)
    × (EstimatesEach 64 1 2 1 1 (just 1) (just 1) (just 1) → ⊥)
    × (EstimatesEach 64 1 1 2 1 (just 1) (just 1) (just 1) → ⊥)
    × (EstimatesEach 64 1 1 1 2 (just 1) (just 1) (just 1) → ⊥)
estimates_common-cases = (
  record { first = just 1; second = just 1; all = just 1; each = each-one; is = common-one },
  λ is.
      let first = (is.each.of_first.none refl).0 in
      let second = (is.each.of_second.none refl).0 in
      let all = (is.each.of_all.none refl).1 in
      let wrong : 1 ≡ 0 =
      is.is.low ∙ ap (λ low. common_least low (least_of is.second) (most_of is.all)) first
      ∙ ap (λ low. common_least 0 low (most_of is.all)) second ∙ ap (common_least 0 0) all in
      omega (arith, wrong),
  λ each. omega (arith, each.of_first.fits.at_least),
  λ each. omega (arith, each.of_second.fits.at_least),
  λ each. omega (arith, each.of_all.fits.at_least),
)

-- two filters of the same bit are wholly alike, and of two of no bit nothing is known
estimates_likeness-cases : EstimatesLikeness 64 1 1 1 1 (exactly (2 ^ 63) (lit≤ tt))
    × (EstimatesLikeness 64 1 0 0 0 (exactly (2 ^ 63) (lit≤ tt)) → ⊥)
estimates_likeness-cases = (
  record {
    first = just 1;
    second = just 1;
    all = just 1;
    common = just 1;
    each = each-one;
    is_common = common-one;
    is_part = record {
      holds = λ m n some all _ _. record {
        at_least = omega (arith, some.at_least, all.at_most);
        at_most = omega (arith, some.at_most, all.at_least);
      };
      low = refl;
      high = refl;
    };
  },
  λ is.
      let wrong : 2 ^ 63 ≡ 0 =
      is.is_part.low ∙ ap (part_low (least_of is.common)) (is.each.of_all.none refl).1 in
      omega (arith, wrong),
)
