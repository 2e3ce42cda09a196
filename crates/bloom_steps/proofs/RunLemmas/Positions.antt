-- The positions of a hash, place by place.
use Rattle.std.proofs.Common.{◌<◌, ◌≡◌, Bool, arith, false, refl, suc, sym, true, zero, ℕ}
use Rattle.bloom_steps.proofs.Common.{and_from, are_in, place}

-- where each place is in a set, all are
pub are_in-all : (n k hash : ℕ) (A : ℕ → Bool) → ((i : ℕ) → i < k → A (place n hash i) ≡ true)
    → are_in n k hash A ≡ true
unfolding are_in
are_in-all n zero hash A all = refl
are_in-all n (suc k) hash A all =
    and_from (are_in n k hash A) (A (place n hash k))
    (are_in-all n k hash A (λ i below. all i (omega (arith, below)))) (all k (omega arith))

-- truth values that are true together and false together are the same
pub both_alike : (a b : Bool) → (a ≡ true → b ≡ true) → (a ≡ false → b ≡ false) → a ≡ b
both_alike true b on off = sym (on refl)
both_alike false b on off = sym (off refl)
