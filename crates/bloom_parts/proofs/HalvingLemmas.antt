-- Halvings: which are enough, and which are the least.
use Rattle.std.proofs.Common.{◌≡◌, ◌↔◌, ℕ, suc, ◌+◌, ◌-◌, ◌*◌, ◌/◌, ◌%◌, ◌^◌, ◌<◌, ◌≤◌, inl, inr, refl, ap, arith, subst, sym, ◌∙◌, lit<}
use Rattle.bloom_parts.proofs.Common.{le_of_mul-le-mul_right, pow-le-pow_left, pow-le-pow_right, two-pow-succ, pow-zero, pow-suc, cases_lt, IsRoot, IsEnough, IsHalvings, CoverLaw, NoneLaw, MostLaw, OneSizeLaw}
use Rattle.std.proofs.lemmas.Nat.{mul-le, pow-add, mul-pow, shl_whole}
use Rattle.bloom_parts.proofs.PowerBounds.{pow-pow}
use Rattle.bloom_parts.proofs.RootLemmas.{root-zero, root-least, root-below, root-mono, one_root}

-- the test of the code at this many parts, with n and d read from the rate and t from the table
pub record IsTest (num den parts n d t : ℕ) : Type 0 where
  pub fits : n * 2 ^ (parts / 64) % 2 ^ 128 * t < 2 ^ 128
  pub decides : (d * 2 ^ 32 % 2 ^ 128 ≤ n * 2 ^ (parts / 64) % 2 ^ 128 * t) ↔ IsEnough num den parts

-- a rate of one or more needs none
pub none-enough : (num den : ℕ) → den ≤ num → IsEnough num den 0
none-enough num den more = (2 ^ 32, root-zero, rw (pow-zero 2) (omega (arith, more)))

-- sixty-four whole halvings are always enough
pub most-enough : (num den : ℕ) → 0 < num → den < 2 ^ 64 → IsEnough num den 4096
most-enough num den above fits = (2 ^ 32, root-zero, omega (arith, above, fits))

-- the numbers of the test, where no fewer parts are enough
module _ (num den parts t : ℕ) (num_fits : num < 2 ^ 64) (den_fits : den < 2 ^ 64)
    (root : IsRoot (parts % 64) t)
    (few : (fewer : ℕ) → fewer < parts → IsEnough num den fewer → ⊥) where
  -- had the shifted rate 66 digits, then one whole halving fewer would be enough
  too_wide : 64 ≤ parts → 2 ^ 65 ≤ num * 2 ^ (parts / 64) → ⊥
  too_wide large wide =
      let place : parts % 64 ≡ (parts - 64) % 64 = omega (arith, large) in
      let next : suc ((parts - 64) / 64) ≡ parts / 64 = omega (arith, large) in
      let double : num * 2 ^ (parts / 64) ≡ 2 * (num * 2 ^ ((parts - 64) / 64)) =
      rw (← next, pow-suc 2 ((parts - 64) / 64)) (omega arith) in
      let still_wide : 2 ^ 64 ≤ num * 2 ^ ((parts - 64) / 64) = omega (arith, wide, double) in
      let scaled : 2 ^ 64 * 2 ^ 32 ≤ num * 2 ^ ((parts - 64) / 64) * t =
      mul-le (2 ^ 64) (2 ^ 32) (num * 2 ^ ((parts - 64) / 64)) t still_wide
      (root-least (parts % 64) t root) in
      few (parts - 64) (omega (arith, large))
      (t, subst (λ j. IsRoot j t) place root, omega (arith, scaled, den_fits))

  -- the shifted rate has at most 65 digits
  shifted-fits : num * 2 ^ (parts / 64) < 2 ^ 65
  shifted-fits = elim (cases_lt parts 64) [
    | inl small ↦
        let none : parts / 64 ≡ 0 = omega (arith, small) in
        rw (none, pow-zero 2) (omega (arith, num_fits))
    | inr large ↦ elim (cases_lt (num * 2 ^ (parts / 64)) (2 ^ 65)) [
      | inl narrow ↦ narrow
      | inr wide ↦ absurd (too_wide large wide)
    ]
  ]

  -- the test of the code loses no digit, and is that of the definition
  module _ (within : parts < 4096) (n d : ℕ) (same_num : n ≡ num) (same_den : d ≡ den) where
    -- the code loses no digit of the upper part
    num-shifted : n * 2 ^ (parts / 64) % 2 ^ 128 ≡ num * 2 ^ (parts / 64)
    num-shifted = rw same_num (shl_whole num 64 (parts / 64) 128 num_fits (omega (arith, within)))

    -- the code loses no digit of the lower part
    den-shifted : d * 2 ^ 32 % 2 ^ 128 ≡ den * 2 ^ 32
    den-shifted = omega (arith, same_den, den_fits)

    -- the product with the root doesn't overflow
    product-fits : n * 2 ^ (parts / 64) % 2 ^ 128 * t < 2 ^ 128
    product-fits =
        let product : num * 2 ^ (parts / 64) * t ≤ 2 ^ 65 * 2 ^ 33 =
        mul-le (num * 2 ^ (parts / 64)) t (2 ^ 65) (2 ^ 33)
        (omega (arith, shifted-fits))
        (omega (arith, root-below (parts % 64) t (omega arith) root)) in
        rw num-shifted (omega (arith, product))

    -- the code compares the numbers of the definition
    decides : (d * 2 ^ 32 % 2 ^ 128 ≤ n * 2 ^ (parts / 64) % 2 ^ 128 * t) ↔ IsEnough num den parts
    decides = (
      (λ is. (t, root, rw (den-shifted, num-shifted) at is)),
      (λ (u, other, enough).
          let same : u ≡ t = one_root (parts % 64) u t other root in
          rw (den-shifted, num-shifted) (rw same at enough)),
    )

    -- the test of the code is that of the definition, and its product fits
    pub test-halvings : IsTest num den parts n d t
    test-halvings = record { fits = product-fits; decides = decides }

-- the least is the one that a search upwards finds
pub least-halvings : (num den parts : ℕ) → IsEnough num den parts →
    ((fewer : ℕ) → fewer < parts → IsEnough num den fewer → ⊥) → IsHalvings num den parts
least-halvings num den parts enough few = record {
  enough = enough;
  least = λ other is. elim (cases_lt other parts) [
    | inl less ↦ absurd (few other less is)
    | inr more ↦ more
  ];
}

-- no number up to 64 * e + j is enough where that one isn't, since roots grow up to their double
too-few : (num den e j t other : ℕ) → IsRoot j t → j < 64 → num * 2 ^ e * t < den * 2 ^ 32 →
    other ≤ 64 * e + j → IsEnough num den other → ⊥
too-few num den e j t other root within few before (u, is_root, enough) =
    elim (cases_lt (other / 64) e) [
      | inl earlier ↦
          let double : 2 ^ suc (other / 64) ≤ 2 ^ e = pow-le-pow_right (lit< tt) earlier in
          let less : 2 ^ (other / 64) * u ≤ 2 ^ (other / 64) * 2 ^ 33 =
          mul-le (2 ^ (other / 64)) u (2 ^ (other / 64)) (2 ^ 33) (omega arith)
          (omega (arith, root-below (other % 64) u (omega arith) is_root)) in
          let more : 2 ^ e * 2 ^ 32 ≤ 2 ^ e * t =
          mul-le (2 ^ e) (2 ^ 32) (2 ^ e) t (omega arith) (root-least j t root) in
          let all : 2 ^ (other / 64) * u ≤ 2 ^ e * t =
          omega (arith, two-pow-succ (other / 64), double, less, more) in
          let scaled : num * (2 ^ (other / 64) * u) ≤ num * (2 ^ e * t) =
          mul-le num (2 ^ (other / 64) * u) num (2 ^ e * t) (omega arith) all in
          omega (arith, few, enough, scaled)
      | inr same ↦
          let here : other / 64 ≡ e = omega (arith, same, before, within) in
          let place : other % 64 ≤ j = omega (arith, here, before) in
          let less : u ≤ t = root-mono (other % 64) j u t place is_root root in
          let scaled : num * 2 ^ e * u ≤ num * 2 ^ e * t =
          mul-le (num * 2 ^ e) u (num * 2 ^ e) t (omega arith) less in
          omega (arith, few, rw here at enough, scaled)
    ]

-- the halvings are those that are enough where the number before them isn't
pub next-halvings : (num den e j t : ℕ) → IsRoot j t → j < 64 → num * 2 ^ e * t < den * 2 ^ 32 →
    IsEnough num den (64 * e + j + 1) → IsHalvings num den (64 * e + j + 1)
next-halvings num den e j t root within few enough =
    least-halvings num den (64 * e + j + 1) enough
    (λ fewer below. too-few num den e j t fewer root within few (omega (arith, below)))

-- a common factor is left out
cancel : (d w n e t j : ℕ) → 0 < w → d * w ≤ n * e * t → t ≤ w * j → d ≤ e * j * n
cancel d w n e t j above first second =
    let one : n * e * t ≤ n * e * (w * j) = mul-le (n * e) t (n * e) (w * j) (omega arith) second in
    let two : d * w ≤ (e * j * n) * w = omega (arith, one, first) in
    le_of_mul-le-mul_right two above

-- the test, to the power 64, with the root's own inequality
raised : (num den e j t : ℕ) → IsRoot j t → den * 2 ^ 32 ≤ num * 2 ^ e * t →
    den ^ 64 ≤ 2 ^ (e * 64) * 2 ^ j * num ^ 64
raised num den e j t root enough =
    let power : (den * 2 ^ 32) ^ 64 ≤ (num * 2 ^ e * t) ^ 64 = pow-le-pow_left enough 64 in
    let left : (den * 2 ^ 32) ^ 64 ≡ den ^ 64 * (2 ^ 32) ^ 64 = mul-pow den (2 ^ 32) 64 in
    let right : (num * 2 ^ e * t) ^ 64 ≡ num ^ 64 * 2 ^ (e * 64) * t ^ 64 =
    rw (mul-pow (num * 2 ^ e) t 64, mul-pow num (2 ^ e) 64, pow-pow 2 e 64) refl in
    let scaled = rw (left, right) at power in
    let small : t ^ 64 ≤ 2 ^ 2048 * 2 ^ j = rw (← pow-add 2 2048 j) root.at_most in
    cancel (den ^ 64) ((2 ^ 32) ^ 64) (num ^ 64) (2 ^ (e * 64)) (t ^ 64) (2 ^ j) (lit< tt)
    scaled small

-- the law that halvings cover the rate
pub cover_law : CoverLaw
cover_law num den parts is =
    let (t, root, enough) = is.enough in
    let raised : den ^ 64 ≤ 2 ^ (parts / 64 * 64) * 2 ^ (parts % 64) * num ^ 64 =
    raised num den (parts / 64) (parts % 64) t root enough in
    let whole : parts ≡ parts / 64 * 64 + parts % 64 = omega arith in
    let split : 2 ^ parts ≡ 2 ^ (parts / 64 * 64) * 2 ^ (parts % 64) =
    ap (λ v. 2 ^ v) whole ∙ pow-add 2 (parts / 64 * 64) (parts % 64) in
    rw split raised

-- the law on rates of one or more
pub none_law : NoneLaw
none_law num den parts more is = omega (arith, is.least 0 (none-enough num den more))

-- the law on the most halvings
pub most_law : MostLaw
most_law num den parts above fits is = is.least 4096 (most-enough num den above fits)

-- there are no two least numbers
one_halvings : (num den parts others : ℕ) → IsHalvings num den parts → IsHalvings num den others
    → parts ≡ others
one_halvings num den parts others first second =
    omega (arith, first.least others second.enough, second.least parts first.enough)

-- the law that there is one size
pub one_size_law : OneSizeLaw
one_size_law items num den size other (parts, first, size_is) (others, second, other_is) =
    let same : parts ≡ others = one_halvings num den parts others first second in
    size_is ∙ rw same (sym other_is)
