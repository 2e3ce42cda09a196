-- The search of a number that passes a test, by its binary digits from the highest on.
use Rattle.std.proofs.Common.{◌≡◌, ◌↔◌, ℕ, suc, ◌+◌, ◌-◌, ◌^◌, ◌<◌, ◌≤◌, ◌∙◌, ap, arith}
use Rattle.std.proofs.Math.Nat.{two-pow-succ}

-- a number passes, and the number 2^i above it does not, where that has 64 bits
pub record IsFound (passes : ℕ → Type 0) (found i : ℕ) : Type 0 where
  pub here : passes found
  pub fits : found + 2 ^ i ≤ 2 ^ 64
  pub past : found + 2 ^ i < 2 ^ 64 → passes (found + 2 ^ i) → ⊥

-- a power of two is twice the one below
halves : (i : ℕ) → 0 < i → 2 ^ i ≡ 2 ^ (i - 1) + 2 ^ (i - 1)
halves i some =
    let next : i ≡ suc (i - 1) = omega (arith, some) in
    ap (λ n. 2 ^ n) next ∙ omega (arith, two-pow-succ (i - 1))

module _ {passes : ℕ → Type 0} {found i : ℕ} (is : IsFound passes found i) (some : 0 < i) where
  -- the next digit is 1
  pub found-one : passes (found + 2 ^ (i - 1)) → IsFound passes (found + 2 ^ (i - 1)) (i - 1)
  found-one next = record {
    here = next;
    fits = omega (arith, is.fits, halves i some);
    past =
        let same : found + 2 ^ (i - 1) + 2 ^ (i - 1) ≡ found + 2 ^ i =
        omega (arith, halves i some) in
        rw same is.past;
  }

  -- the next digit is 0
  pub found-zero : (passes (found + 2 ^ (i - 1)) → ⊥) → IsFound passes found (i - 1)
  found-zero fails = record {
    here = is.here;
    fits = omega (arith, is.fits, halves i some);
    past = λ _ next. fails next;
  }

-- half-way through a search: the test is the one that it began with, and was made once for each
-- digit so far
pub record IsSearching (passes now : ℕ → Type 0) (count found i : ℕ) : Type 0 where
  pub is_found : IsFound passes found i
  pub same : (n : ℕ) → passes n ↔ now n
  pub tests : count + i ≡ 64
