-- The bounds of a part of all items.
use Rattle.std.proofs.Common.{◌≡◌, ◌⊎◌, ℕ, ◌*◌, ◌/◌, ◌^◌, ◌≤◌, min, Option, None, Some, IfSome, refl, arith, inl, inr}
use Rattle.bloom_parts.proofs.Common.{div_ceil, div-mul-le_self, le_of_mul-le-mul_right, cases_lt, div_ceil_times, mul-le}
use Rattle.std.specs.Option.{ForSome}
use Rattle.std.proofs.lemmas.Bool.Decides.{eqb_tells}
use Rattle.bloom_parts.specs.Alike.{part_low, part_high}

-- the lower bound holds: m items are in the part, no fewer than `part`, of n in all, no more than
-- `all`
pub low-holds : (part m n : ℕ) (all : Option ℕ) → part ≤ m → IfSome all (λ most. n ≤ most) →
    part_low part all * n ≤ 2 ^ 63 * m
low-holds part m n None least most = omega arith
low-holds part m n (Some all) least most = elim (eqb_tells all 0) [
  | inl none ↦ rw (none.0) (omega arith)
  | inr some ↦
      rw (some.0)
      (let share : ℕ = 2 ^ 63 * part / all in
      let whole : min (2 ^ 63) share * n ≤ share * all =
      mul-le (min (2 ^ 63) share) n share all (omega arith) most in
      omega (arith, whole, div-mul-le_self (2 ^ 63 * part) all, least))
]

-- the smaller of two numbers is one of them
min-is : (a b : ℕ) → (min a b ≡ a) ⊎ (min a b ≡ b)
min-is a b = elim (cases_lt a b) [
  | inl less ↦ inl (omega (arith, less))
  | inr more ↦ inr (omega (arith, more))
]

-- the upper bound holds: m items are in the part, no more than `part`, of n in all, no fewer than
-- `all`
pub high-holds : (all m n : ℕ) (part : Option ℕ) → all ≤ n → m ≤ n →
    IfSome part (λ most. m ≤ most) →
    2 ^ 63 * m ≤ part_high part all * n
high-holds all m n None least within most = omega (arith, within)
high-holds all m n (Some part) least within most = elim (eqb_tells all 0) [
  | inl none ↦ rw (none.0) (omega (arith, within))
  | inr some ↦
      rw (some.0)
      (let share : ℕ = div_ceil (2 ^ 63 * part) all in
      let times = div_ceil_times (2 ^ 63 * part) all (omega (arith, some.1)) in
      let more : share * all ≤ share * n = mul-le share all share n (omega arith) least in
      elim (min-is (2 ^ 63) share) [
        | inl one ↦ rw one (omega (arith, within))
        | inr other ↦ rw other (omega (arith, more, times.0, most))
      ])
]

-- the bounds are ordered
pub part-ordered : (least all : ℕ) (most whole : Option ℕ) → ForSome most (λ part. least ≤ part) →
    ForSome whole (λ items. all ≤ items) → part_low least whole ≤ part_high most all
part-ordered least all most None parts wholes = omega arith
part-ordered least all None (Some items) parts wholes = elim (eqb_tells items 0) [
  | inl none ↦ rw (none.0) (omega arith)
  | inr some ↦ rw (some.0) (omega arith)
]
part-ordered least all (Some part) (Some items) parts wholes = elim (eqb_tells items 0) [
  | inl none ↦ rw (none.0) (omega arith)
  | inr some ↦
      rw (some.0)
      (elim (eqb_tells all 0) [
        | inl nothing ↦ rw (nothing.0) (omega arith)
        | inr something ↦
            rw (something.0)
            (let low : ℕ = 2 ^ 63 * least / items in
            let high : ℕ = div_ceil (2 ^ 63 * part) all in
            let below = div-mul-le_self (2 ^ 63 * least) items in
            let above = (div_ceil_times (2 ^ 63 * part) all (omega (arith, something.1))).0 in
            let more : low * all ≤ low * items =
            mul-le low all low items (omega arith) (wholes items refl) in
            let all_of : low * all ≤ high * all =
            omega (arith, below, above, more, parts part refl) in
            let ordered : low ≤ high =
            le_of_mul-le-mul_right all_of (omega (arith, something.1)) in
            omega (arith, ordered))
      ])
]
