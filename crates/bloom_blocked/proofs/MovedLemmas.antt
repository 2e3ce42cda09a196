-- Steps in a part of the words, as steps of all words.
use Rattle.std.proofs.Common.{[], ◌%◌, ◌*◌, ◌+◌, ◌∷◌, ◌≡◌, List, Some, ap, arith, map, nat_eq, refl, slice_get, subst, suc, zero, ℕ}
use Rattle.bloom_blocked.proofs.Common.{bit_at, none-some, same_Some, bit_is_on}
use Rattle.bloom_steps.specs.Scripts.{Each, Taken}

-- a member of a list, changed
pub map-get : (f : Taken → Taken) (xs : List Taken) (i : ℕ) (t : Taken) → slice_get xs i ≡ Some t
    → slice_get (map f xs) i ≡ Some (f t)
map-get f [] i t e = absurd (none-some t e)
map-get f (x ∷ xs) zero t e = ap (λ u. Some (f u)) (same_Some _ _ e)
map-get f (x ∷ xs) (suc i) t e = map-get f xs i t e

-- a member of a list whose members were changed
pub map-got : (f : Taken → Taken) (xs : List Taken) (i : ℕ) (t : Taken)
    → slice_get (map f xs) i ≡ Some t → (u : Taken) × (slice_get xs i ≡ Some u) × (f u ≡ t)
map-got f [] i t e = absurd (none-some t e)
map-got f (x ∷ xs) zero t e = (x, refl, same_Some _ _ e)
map-got f (x ∷ xs) (suc i) t e = map-got f xs i t e

-- what holds of each member, changed, holds of each member of the changed list
pub each-moved : (f : Taken → Taken) (xs : List Taken) (P : ℕ → Taken → Type 0)
    → Each xs (λ i t. P i (f t)) → Each (map f xs) P
each-moved f xs P each i t g =
    let (u, here, same) = map-got f xs i t g in subst (P i) same (each i u here)

-- a bit of a word is the same wherever the word lies
pub bit-moved : (x start q : ℕ) → bit_is_on x (64 * start + q) ≡ bit_is_on x q
bit-moved x start q =
    let same : (64 * start + q) % 64 ≡ q % 64 = omega arith in
    ap (λ j. nat_eq (bit_at x j) 1) same
