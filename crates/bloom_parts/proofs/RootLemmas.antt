-- The roots of order 64 of the powers of two.
use Rattle.std.proofs.Common.{◌≡◌, ℕ, zero, suc, ◌+◌, ◌^◌, ◌<◌, ◌≤◌, Bool, true, List, [], ◌∷◌, ◌&&◌, leb, ltb, length, get_or, arith, subst, inl, inr, lit<, lit≤}
use Rattle.bloom_parts.proofs.Common.{cases_lt, nat_tests, IsRoot}
use Rattle.std.proofs.Math.Nat.{le_trans, lt_of_le_of_lt, pow-le-pow_left, pow-le-pow_right}

-- the test of a list whether it has the roots, from root j on
abbrev pub are_roots : ℕ → List ℕ → Bool
are_roots j [] = true
are_roots j (t ∷ ts) =
    leb (t ^ 64) (2 ^ (2048 + j)) && ltb (2 ^ (2048 + j)) ((t + 1) ^ 64) && are_roots (j + 1) ts

-- the three parts of the test
test-parts : (a b c d : ℕ) (rest : Bool) → (leb a b && ltb c d && rest) ≡ true →
    (a ≤ b) × (c < d) × (rest ≡ true)
test-parts a b c d rest is =
    (grind (arith, nat_tests), grind (arith, nat_tests), grind (arith, nat_tests))

-- a list that passes the test has each root at its place
roots-from : (j : ℕ) (ts : List ℕ) → are_roots j ts ≡ true → (i : ℕ) → i < length ts →
    IsRoot (j + i) (get_or ts i 0)
roots-from j [] are i within = absurd (omega arith)
roots-from j (t ∷ ts) are zero within =
    let power : ℕ = 2 ^ (2048 + j) in
    let parts = test-parts (t ^ 64) power power ((t + 1) ^ 64) (are_roots (j + 1) ts) are in
    let here : j ≡ j + 0 = omega arith in
    subst (λ (x : ℕ). IsRoot x t) here (record { at_most = parts.0; greatest = parts.1 })
roots-from j (t ∷ ts) are (suc i) within =
    let power : ℕ = 2 ^ (2048 + j) in
    let parts = test-parts (t ^ 64) power power ((t + 1) ^ 64) (are_roots (j + 1) ts) are in
    let here : j + 1 + i ≡ j + suc i = omega arith in
    subst (λ (x : ℕ). IsRoot x (get_or ts i 0)) here (roots-from (j + 1) ts parts.2 i (omega arith))

-- a table that passes the test from root 0 on has each root at its place
pub root-in : (ts : List ℕ) (j : ℕ) → are_roots 0 ts ≡ true → j < length ts →
    IsRoot j (get_or ts j 0)
root-in ts j are within =
    let here : 0 + j ≡ j = omega arith in
    subst (λ (x : ℕ). IsRoot x (get_or ts j 0)) here (roots-from 0 ts are j within)

-- root 0 is 2^32
pub root-zero : IsRoot 0 (2 ^ 32)
root-zero = record { at_most = lit≤ tt; greatest = lit< tt }

-- powers keep the order of numbers
power-64 : (a b : ℕ) → a < b → (a + 1) ^ 64 ≤ b ^ 64
power-64 a b less = let next : a + 1 ≤ b = omega arith in pow-le-pow_left next 64

-- powers of two keep the order of their exponents
power-of_two : (i j : ℕ) → i ≤ j → 2 ^ (2048 + i) ≤ 2 ^ (2048 + j)
power-of_two i j before =
    let later : 2048 + i ≤ 2048 + j = omega arith in pow-le-pow_right (lit< tt) later

-- no number lies between two that are the other way round
between : (a b c : ℕ) → a ≤ b → b ≤ c → c < a → ⊥
between a b c first second third = omega arith

-- powers of numbers that are apart, with a number between them that is not
module _ (j t u : ℕ) (root : IsRoot j t) where
  -- a number whose power is below that of the root's successor is at most the root
  pub at_most-root : u ^ 64 ≤ 2 ^ (2048 + j) → u ≤ t
  at_most-root low = elim (cases_lt t u) [
    | inl less ↦
        absurd
        (between ((t + 1) ^ 64) (u ^ 64) (2 ^ (2048 + j)) (power-64 t u less) low root.greatest)
    | inr enough ↦ enough
  ]

  -- a number whose successor's power is above that of the root is at least the root
  pub at_least-root : 2 ^ (2048 + j) < (u + 1) ^ 64 → t ≤ u
  at_least-root high = elim (cases_lt u t) [
    | inl less ↦
        absurd
        (between ((u + 1) ^ 64) (t ^ 64) (2 ^ (2048 + j)) (power-64 u t less) root.at_most high)
    | inr enough ↦ enough
  ]

-- a root is from 2^32 up to but without 2^33
pub root-least : (j t : ℕ) → IsRoot j t → 2 ^ 32 ≤ t
root-least j t root =
    at_most-root j t (2 ^ 32) root (power-of_two 0 j (omega arith))

-- the roots up to root 63 are below 2^33
pub root-below : (j t : ℕ) → j < 64 → IsRoot j t → t < 2 ^ 33
root-below j t within root =
    let less : 2 ^ (2048 + j) < (8589934591 + 1) ^ 64 =
    lt_of_le_of_lt (power-of_two j 63 (omega arith)) (lit< tt) in
    let enough : t ≤ 8589934591 = at_least-root j t 8589934591 root less in
    omega (arith, enough)

-- there is one root at each place
pub one_root : (j t u : ℕ) → IsRoot j t → IsRoot j u → t ≡ u
one_root j t u first second =
    omega (arith, at_most-root j u t second first.at_most, at_most-root j t u first second.at_most)

-- a later root is no less
pub root-mono : (i j t u : ℕ) → i ≤ j → IsRoot i t → IsRoot j u → t ≤ u
root-mono i j t u before first second =
    at_most-root j u t second (le_trans first.at_most (power-of_two i j before))
