-- Members of a list by their index.
use Rattle.std.proofs.Common.{[], ◌++◌, ◌+◌, ◌<◌, ◌∙◌, ◌∷◌, ◌≡◌, ◌⊎◌, List, Some, add-one, ap, arith, drop, inl, inr, length, refl, slice_get, suc, sym, take, zero, ℕ}
use Rattle.std.proofs.lemmas.Option.{none-some, same_Some}

-- a member of one more at the end is an earlier one or the last
pub member_of_more : {X : Type 0} (s : List X) (x y : X) (i : ℕ)
    → slice_get (s ++ x ∷ []) i ≡ Some y
    → ((i < length s) × (slice_get s i ≡ Some y)) ⊎ ((i ≡ length s) × (y ≡ x))
member_of_more [] x y zero e = inr (refl, sym (same_Some _ _ e))
member_of_more [] x y (suc i) e = absurd (none-some _ e)
member_of_more (a ∷ s) x y zero e = inl (omega arith, e)
member_of_more (a ∷ s) x y (suc i) e =
    elim (member_of_more s x y i e) [
      | inl p ↦ inl (omega (arith, p.0), p.1)
      | inr q ↦ inr (ap suc q.0, q.1)
    ]

-- a member of the front is one of the whole
pub member-front : {X : Type 0} (s r : List X) (y : X) (i : ℕ) → slice_get s i ≡ Some y
    → slice_get (s ++ r) i ≡ Some y
member-front [] r y i e = absurd (none-some _ e)
member-front (a ∷ s) r y zero e = e
member-front (a ∷ s) r y (suc i) e = member-front s r y i e

-- the member just behind the front
pub member-seam : {X : Type 0} (s r : List X) (y : X) → slice_get (s ++ y ∷ r) (length s) ≡ Some y
member-seam [] r y = refl
member-seam (a ∷ s) r y = member-seam s r y

-- below the length there is a member
pub some_member : {X : Type 0} (s : List X) (i : ℕ) → i < length s
    → (y : X) × (slice_get s i ≡ Some y)
some_member [] i h = absurd (omega arith)
some_member (a ∷ s) zero h = (a, refl)
some_member (a ∷ s) (suc i) h = some_member s i (omega arith)

-- a member of the first ones is one of all
pub member_of_take : {X : Type 0} (xs : List X) (n i : ℕ) (r : X) → slice_get (take n xs) i ≡ Some r
    → (i < n) × (slice_get xs i ≡ Some r)
member_of_take xs zero i r e = absurd (none-some r e)
member_of_take [] (suc n) i r e = absurd (none-some r e)
member_of_take (x ∷ xs) (suc n) zero r e = (omega arith, e)
member_of_take (x ∷ xs) (suc n) (suc i) r e =
    let rest = member_of_take xs n i r e in (omega (arith, rest.0), rest.1)

-- a member of all whose index is below a number is one of the first ones
pub member-take : {X : Type 0} (xs : List X) (n i : ℕ) (r : X) → i < n → slice_get xs i ≡ Some r
    → slice_get (take n xs) i ≡ Some r
member-take xs zero i r l e = absurd (omega arith)
member-take [] (suc n) i r l e = absurd (none-some r e)
member-take (x ∷ xs) (suc n) zero r l e = e
member-take (x ∷ xs) (suc n) (suc i) r l e = member-take xs n i r (omega arith) e

-- the first m members and the next are the first m + 1
pub take-more : {X : Type 0} (xs : List X) (m : ℕ) (r : X) → slice_get xs m ≡ Some r
    → take (m + 1) xs ≡ take m xs ++ r ∷ []
take-more {X} xs m r e = ap (λ n. take n xs) (add-one m) ∙ go xs m e
  where
    go : (xs : List X) (m : ℕ) → slice_get xs m ≡ Some r → take (suc m) xs ≡ take m xs ++ r ∷ []
    go [] m e = absurd (none-some r e)
    go (x ∷ xs) zero e = ap (λ y. y ∷ []) (same_Some _ _ e)
    go (x ∷ xs) (suc m) e = ap (λ l. x ∷ l) (go xs m e)

-- a member behind the front is one of the rest
pub member-back : {X : Type 0} (xs ys : List X) (i j : ℕ) → j ≡ length xs + i
    → slice_get (xs ++ ys) j ≡ slice_get ys i
member-back [] ys i j e = let same : j ≡ i = omega arith in ap (slice_get ys) same
member-back (x ∷ xs) ys i zero e = absurd (omega arith)
member-back (x ∷ xs) ys i (suc j) e = member-back xs ys i j (omega arith)

-- members before one, that one, and those after it
pub split-at : {X : Type 0} (xs : List X) (m : ℕ) (r : X) → slice_get xs m ≡ Some r
    → xs ≡ take m xs ++ r ∷ drop (suc m) xs
split-at [] m r e = absurd (none-some r e)
split-at (x ∷ xs) zero r e = ap (λ y. y ∷ xs) (same_Some _ _ e)
split-at (x ∷ xs) (suc m) r e = ap (λ l. x ∷ l) (split-at xs m r e)
