-- The laws of filters that grow.
use Rattle.std.proofs.Common.{◌≡◌, ℕ, zero, suc, ◌+◌, ◌*◌, ◌^◌, ◌<◌, Bool, true, false, List, [], ◌∷◌, ◌++◌, refl, sym, ◌∙◌, ap, subst, arith, add-one, inl, inr}
use Rattle.std.proofs.Math.Nat.{mul-pos, pow-suc, lt_of_mul-lt-mul_right}
use Rattle.std.proofs.lemmas.Bool.{or_cases, or_left, or_right, cases_lt}
use Rattle.bloom_growing.proofs.Common.{num_of, den_of, Rate, Growing, any_contains, has, den_at, newest_room, BeginsNext, Adds, Accepts, Kind, placement_of, contains}
use Rattle.bloom_growing.specs.GrowingLaws.{AcceptsAll, sum_of_rates, RatesBelowLaw}
use Rattle.bloom_growing.proofs.GrowingLemmas.{has-or}
use Rattle.bloom_growing.proofs.GrowingKeptLemmas.{some_room_at}
use Rattle.bloom_growing.proofs.KindLemmas.{insert-found, insert-keeps}

module _ {S : Type 0} (kind : Kind) where
  -- an older filter that contains a hash is enough
  has-older : (g : Growing S) (hash : ℕ) → any_contains kind g.older hash ≡ true
      → has kind g hash ≡ true
  has-older g hash found = has-or kind g hash ∙ or_left (any_contains kind g.older hash) _ found

  -- the newest filter is enough as well
  has-newest : (g : Growing S) (hash : ℕ) → contains (placement_of kind) g.newest hash ≡ true
      → has kind g hash ≡ true
  has-newest g hash found = has-or kind g hash ∙ or_right (any_contains kind g.older hash) _ found

  -- the filters before the next one are all older then
  has-begins : (old new : Growing S) (hash : ℕ) → BeginsNext kind old new → has kind old hash ≡ true
      → has kind new hash ≡ true
  has-begins old new hash begins found =
      has-older new hash (ap (λ l. any_contains kind l hash) begins.older ∙ found)

  -- one more hash loses no other
  has-adds : (old new : Growing S) (added hash : ℕ) → Adds kind old added new
      → has kind old hash ≡ true
      → has kind new hash ≡ true
  has-adds old new added hash adds found =
      elim (or_cases (any_contains kind old.older hash) _ (sym (has-or kind old hash) ∙ found)) [
        | inl older ↦
            has-older new hash (ap (λ l. any_contains kind l hash) adds.older ∙ older)
        | inr newest ↦
            has-newest new hash
            (insert-keeps kind old.newest new.newest added hash false adds.newest newest)
      ]

  -- the hash that was added is contained
  found-adds : (old new : Growing S) (hash : ℕ) → Adds kind old hash new → has kind new hash ≡ true
  found-adds old new hash adds =
      has-newest new hash (insert-found kind old.newest new.newest hash false adds.newest)

  -- an insert by its reply: nothing changed, or the hash was added
  kept-takes : (old new : Growing S) (came hash : ℕ) (reply held : Bool) → has kind old came ≡ held
      → Accepts kind old came new reply → has kind old hash ≡ true → has kind new hash ≡ true
  kept-takes old new came hash reply true is takes found =
      subst (λ g. has kind g hash ≡ true) (sym (takes.held is)) found
  kept-takes old new came hash reply false is takes found =
      elim (cases_lt old.taken (newest_room old)) [
        | inl spare ↦ has-adds old new came hash (takes.spare is spare) found
        | inr full ↦
            let begun = takes.full is full in
            has-adds begun.0 new came hash begun.2 (has-begins old begun.0 hash begun.1 found)
      ]

  -- a hash that came is contained, whether it was before or not
  found-takes : (old new : Growing S) (hash : ℕ) (reply held : Bool) → has kind old hash ≡ held
      → Accepts kind old hash new reply → has kind new hash ≡ true
  found-takes old new hash reply true is takes =
      subst (λ g. has kind g hash ≡ true) (sym (takes.held is)) is
  found-takes old new hash reply false is takes =
      elim (cases_lt old.taken (newest_room old)) [
        | inl spare ↦ found-adds old new hash (takes.spare is spare)
        | inr full ↦
            let begun = takes.full is full in found-adds begun.0 new hash begun.2
      ]

-- what is contained stays, one insert after the other
pub growing_kept_law : (S : Type 0) (kind : Kind) (old new : Growing S) (hashes : List ℕ) (hash : ℕ)
    → AcceptsAll kind old hashes new → has kind old hash ≡ true → has kind new hash ≡ true
growing_kept_law S kind old new [] hash all found =
    subst (λ g. has kind g hash ≡ true) (sym all) found
growing_kept_law S kind old new (came ∷ later) hash all found =
    growing_kept_law S kind all.0 new later hash all.3
    (kept-takes kind old all.0 came hash all.1 (has kind old came) refl all.2 found)

-- the hash is contained once it came, and stays
pub growing_found_law : (S : Type 0) (kind : Kind) (old new : Growing S) (earlier later : List ℕ)
    (hash : ℕ) → AcceptsAll kind old (earlier ++ hash ∷ later) new → has kind new hash ≡ true
growing_found_law S kind old new [] later hash all =
    growing_kept_law S kind all.0 new later hash all.3
    (found-takes kind old all.0 hash all.1 (has kind old hash) refl all.2)
growing_found_law S kind old new (came ∷ earlier) later hash all =
    growing_found_law S kind all.0 new earlier later hash all.3

-- the lower part of a sum of rates is above zero
sum-above : (rate : Rate) (m : ℕ) → 0 < (sum_of_rates rate m).1
sum-above rate zero = omega arith
sum-above rate (suc m) =
    mul-pos (sum-above rate m) (some_room_at (den_of rate) (m + 1) rate.den_above)

-- a sum that lacks one p-th part lacks half of it after the next rate, in whole numbers
sum-step : (s t a b p q d : ℕ) → q ≡ p * 2 → d ≡ b * q → s * (b * p) + a * t ≡ a * p * t
    → (s * d + a * t) * (b * q) + a * (t * d) ≡ a * q * (t * d)
sum-step s t a b p q d is_q is_d before =
    let twice : s * (b * (p * 2)) + a * t + a * t ≡ a * (p * 2) * t = omega (arith, before) in
    let all = ap (λ v. v * (b * (p * 2))) twice in
    subst (λ d. (s * d + a * t) * (b * q) + a * (t * d) ≡ a * q * (t * d)) (sym is_d)
    (subst (λ q. (s * (b * q) + a * t) * (b * q) + a * (t * (b * q)) ≡ a * q * (t * (b * q)))
    (sym is_q) (omega (arith, all)))

-- the first m rates sum to the rate less its 2^m-th part
sum-is : (rate : Rate) (m : ℕ)
    → (sum_of_rates rate m).0 * (den_of rate * 2 ^ m) + num_of rate * (sum_of_rates rate m).1
    ≡ num_of rate * 2 ^ m * (sum_of_rates rate m).1
sum-is rate zero = omega arith
sum-is rate (suc m) =
    let sum = sum_of_rates rate m in
    sum-step sum.0 sum.1 (num_of rate) (den_of rate) (2 ^ m) (2 ^ suc m) (den_at rate m)
    (pow-suc 2 m) (ap (λ n. den_of rate * 2 ^ n) (add-one m)) (sum-is rate m)

-- what is left is above zero
pub rates_below_law : RatesBelowLaw
rates_below_law rate m =
    let sum = sum_of_rates rate m in
    let some : 0 < num_of rate * sum.1 = mul-pos rate.num_above (sum-above rate m) in
    lt_of_mul-lt-mul_right (2 ^ m) (omega (arith, some, sum-is rate m))
