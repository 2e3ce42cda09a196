-- The share of the hashes that a position has.
use Rattle.std.proofs.Common.{◌≡◌, ℕ, ◌+◌, ◌*◌, ◌^◌, ◌<◌, ◌≤◌, refl, sym, ◌∙◌, eqb, arith, inl, inr}
use Rattle.bloom_parts.proofs.Common.{cases_lt, eqb-true, eq-eqb, div_ceil_times, lt_of_mul-lt-mul_right, chain, index_of, positions}
use Rattle.bloom_parts.specs.Shares.{share_start, IsOnly, ShareLaw, ReachedLaw, EvenLaw}
use Rattle.bloom_parts.proofs.RoundingLemmas.{div_ceil-le, le-div_ceil}

-- with one hash the only position is that of the source hash
positions-one : (n hash q : ℕ) → positions n 1 hash q ≡ eqb q (index_of n hash)
unfolding positions chain
positions-one n hash q = refl

-- a hash that lies at a position has it alone
only-here : (n hash i : ℕ) → index_of n hash ≡ i → IsOnly (positions n 1 hash) i
only-here n hash i here q = (
  (λ is. eqb-true q (index_of n hash) (sym (positions-one n hash q) ∙ is) ∙ here),
  (λ same. positions-one n hash q ∙ eq-eqb q (index_of n hash) (same ∙ sym here)),
)

-- a hash that has one position alone lies there
here-only : (n hash i : ℕ) → IsOnly (positions n 1 hash) i → index_of n hash ≡ i
here-only n hash i only =
    let here = index_of n hash in
    (only here).0 (positions-one n hash here ∙ eq-eqb here here refl)

-- the position of a hash is at least i exactly from the start of the share of i on
module _ (n hash : ℕ) (above : 0 < n) where
  -- from the start of a share on
  start-reached : (i : ℕ) → share_start n i ≤ hash → i * 2 ^ 64 ≤ hash * n
  start-reached i from = le-div_ceil (i * 2 ^ 64) n hash above from

  -- before the start of a share
  start-missed : (i : ℕ) → hash < share_start n i → hash * n < i * 2 ^ 64
  start-missed i before = elim (cases_lt (hash * n) (i * 2 ^ 64)) [
    | inl less ↦ less
    | inr more ↦ absurd (omega (arith, div_ceil-le (i * 2 ^ 64) n hash above more))
  ]

  -- a hash that lies at a position is in its share
  share-to : (i : ℕ) → index_of n hash ≡ i →
      (share_start n i ≤ hash) × (hash < share_start n (i + 1))
  share-to i here = (
    div_ceil-le (i * 2 ^ 64) n hash above (omega (arith, here)),
    elim (cases_lt hash (share_start n (i + 1))) [
      | inl less ↦ less
      | inr more ↦ absurd (omega (arith, here, start-reached (i + 1) more))
    ],
  )

  -- a hash in the share of a position lies there
  share-from : (i : ℕ) → (share_start n i ≤ hash) × (hash < share_start n (i + 1)) →
      index_of n hash ≡ i
  share-from i (from, before) = omega (arith, start-reached i from, start-missed (i + 1) before)

-- the law of shares
pub share_law : ShareLaw
share_law n i hash above fits = (
  (λ only. share-to n hash above i (here-only n hash i only)),
  (λ share. only-here n hash i (share-from n hash above i share)),
)

-- the law that each position has a share
pub reached_law : ReachedLaw
reached_law n i above few =
    let start = div_ceil_times (i * 2 ^ 64) n above in
    let next = div_ceil_times ((i + 1) * 2 ^ 64) n above in
    lt_of_mul-lt-mul_right n (omega (arith, start.1, next.0))

-- the law that shares are alike
pub even_law : EvenLaw
even_law n i j above =
    let start = div_ceil_times (i * 2 ^ 64) n above in
    let next = div_ceil_times ((i + 1) * 2 ^ 64) n above in
    let other_start = div_ceil_times (j * 2 ^ 64) n above in
    let other_next = div_ceil_times ((j + 1) * 2 ^ 64) n above in
    let near : (share_start n (i + 1) + share_start n j) * n
    < (share_start n (j + 1) + share_start n i + 2) * n =
    omega (arith, start.0, next.1, other_start.1, other_next.0) in
    let less : share_start n (i + 1) + share_start n j
    < share_start n (j + 1) + share_start n i + 2 =
    lt_of_mul-lt-mul_right n near in
    omega (arith, less)
