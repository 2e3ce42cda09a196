-- How many different elements a list has, and where one stands in it.
use Rattle.std.proofs.Common.{◌≡◌, ◌≢◌, ◌⊎◌, inl, inr, ◌≤◌, suc, Bool, true, false, ◌||◌, cond, List, [], ◌∷◌, ◌++◌, length, refl, sym, ◌∙◌, ap, subst, length-append, arith}
use Rattle.std.specs.Bool.{Decides}
use Rattle.std.specs.Set.{distinct_count, unique_keys, is_member}
use Rattle.std.proofs.lemmas.Bool.{false_from_ne_true, or_parts, true≢false}
use Rattle.std.proofs.lemmas.List.Folds.{list_any-append}

module _ {A : Type 0} where
  -- a list with an element has a length
  no-cut : (front behind : List A) (x : A) → [] ≡ front ++ x ∷ behind → ⊥
  no-cut front behind x cut =
      let none : 0 ≡ length (front ++ x ∷ behind) = ap length cut in
      omega (arith, none, length-append front (x ∷ behind))

  -- the first element, or another where there is none
  abbrev first-or : A → List A → A
  first-or other [] = other
  first-or other (x ∷ xs) = x

  -- the elements but the first
  abbrev later-of : List A → List A
  later-of [] = []
  later-of (x ∷ xs) = xs

  -- where a list with one more element is cut, the one at the cut is that one, or stands before it
  pub cut-last : (xs front behind : List A) (x other : A) → xs ++ x ∷ [] ≡ front ++ other ∷ behind
      → (other ≡ x) ⊎ ((rest : List A) × (behind ≡ rest ++ x ∷ []) × (xs ≡ front ++ other ∷ rest))
  cut-last [] [] behind x other cut = inl (sym (ap (first-or x) cut))
  cut-last [] (f ∷ front) behind x other cut =
      absurd (no-cut front behind other (ap later-of cut))
  cut-last (y ∷ xs) [] behind x other cut =
      inr (xs, sym (ap later-of cut), ap (λ z. z ∷ xs) (ap (first-or x) cut))
  cut-last (y ∷ xs) (f ∷ front) behind x other cut =
      by (cut-last xs front behind x other (ap later-of cut))
    where
      by : (other ≡ x) ⊎ ((rest : List A) × (behind ≡ rest ++ x ∷ [])
          × (xs ≡ front ++ other ∷ rest))
          → (other ≡ x) ⊎ ((rest : List A) × (behind ≡ rest ++ x ∷ [])
          × (y ∷ xs ≡ f ∷ front ++ other ∷ rest))
      by (inl is) = inl is
      by (inr is) =
          inr (
            is.0,
            is.1,
            ap (λ z. z ∷ xs) (ap (first-or x) cut) ∙ ap (λ l. f ∷ l) is.2,
          )

  module _ (eq : A → A → Bool) (decides : (a b : A) → Decides (eq a b) (a ≡ b)) where
    same-false : (a b : A) → a ≢ b → eq a b ≡ false
    same-false a b differs =
        false_from_ne_true (eq a b) (λ is. differs ((decides a b).0 is))

    -- one element more in front
    cons-in : (x : A) (xs : List A) → is_member eq xs x ≡ true
        → distinct_count eq (x ∷ xs) ≡ distinct_count eq xs
    cons-in x xs is = ap (λ b. length (cond b (unique_keys eq xs) (x ∷ unique_keys eq xs))) is

    pub cons-out : (x : A) (xs : List A) → is_member eq xs x ≡ false
        → distinct_count eq (x ∷ xs) ≡ suc (distinct_count eq xs)
    cons-out x xs is = ap (λ b. length (cond b (unique_keys eq xs) (x ∷ unique_keys eq xs))) is

    cons-least : (x : A) (xs : List A) → distinct_count eq xs ≤ distinct_count eq (x ∷ xs)
    cons-least x xs = by (is_member eq xs x) refl
      where
        by : (b : Bool) → is_member eq xs x ≡ b → distinct_count eq xs ≤ distinct_count eq (x ∷ xs)
        by true is = omega (arith, cons-in x xs is)
        by false is = omega (arith, cons-out x xs is)

    -- a list has as many different elements as its end, at least
    pub suffix : (front behind : List A)
        → distinct_count eq behind ≤ distinct_count eq (front ++ behind)
    suffix [] behind = omega arith
    suffix (x ∷ front) behind = omega (arith, suffix front behind, cons-least x (front ++ behind))

    -- one element more at the end, which wasn't there
    pub one-more : (xs : List A) (x : A) → is_member eq xs x ≡ false
        → suc (distinct_count eq xs) ≤ distinct_count eq (xs ++ x ∷ [])
    one-more [] x out = let one : distinct_count eq (x ∷ []) ≡ 1 = refl in omega (arith, one)
    one-more (y ∷ xs) x out =
        by (one-more xs x (or_parts (eq x y) (is_member eq xs x) out).1) (is_member eq xs y) refl
      where
        differs : eq y x ≡ false
        differs =
            same-false y x (λ same. true≢false
            (sym ((decides x y).1 (sym same)) ∙ (or_parts (eq x y) (is_member eq xs x) out).0))

        by : suc (distinct_count eq xs) ≤ distinct_count eq (xs ++ x ∷ [])
            → (b : Bool) → is_member eq xs y ≡ b
            → suc (distinct_count eq (y ∷ xs)) ≤ distinct_count eq (y ∷ xs ++ x ∷ [])
        by rest true is = omega (arith, cons-in y xs is, rest, cons-least y (xs ++ x ∷ []))
        by rest false is =
            omega (
              arith,
              cons-out y xs is,
              rest,
              cons-out y (xs ++ x ∷ [])
                  (list_any-append (eq y) xs (x ∷ []) ∙ rw (is, differs) refl),
            )

    -- one element more at the end, whatever it is
    pub some-more : (xs : List A) (x : A)
        → distinct_count eq xs ≤ distinct_count eq (xs ++ x ∷ [])
    some-more [] x = let none : distinct_count eq [] ≡ 0 = refl in omega (arith, none)
    some-more (y ∷ xs) x = by (some-more xs x) (is_member eq xs y) refl
      where
        last : distinct_count eq xs ≤ distinct_count eq (xs ++ x ∷ [])
            → is_member eq xs y ≡ false → (b : Bool) → eq y x ≡ b
            → distinct_count eq (y ∷ xs) ≤ distinct_count eq (y ∷ xs ++ x ∷ [])
        last rest out true same =
            omega (
              arith,
              cons-out y xs out,
              cons-least y (xs ++ x ∷ []),
              one-more xs x
                  (subst (λ z. is_member eq xs z ≡ false) ((decides y x).0 same) out),
            )
        last rest out false differs =
            omega (
              arith,
              cons-out y xs out,
              rest,
              cons-out y (xs ++ x ∷ [])
                  (list_any-append (eq y) xs (x ∷ []) ∙ rw (out, differs) refl),
            )

        by : distinct_count eq xs ≤ distinct_count eq (xs ++ x ∷ [])
            → (b : Bool) → is_member eq xs y ≡ b
            → distinct_count eq (y ∷ xs) ≤ distinct_count eq (y ∷ xs ++ x ∷ [])
        by rest true is = omega (arith, cons-in y xs is, rest, cons-least y (xs ++ x ∷ []))
        by rest false is = last rest is (eq y x) refl

    -- an element that is there stands somewhere for the last time
    pub last-at : (xs : List A) (x : A) → is_member eq xs x ≡ true
        → (front : List A) × (behind : List A) × (xs ≡ front ++ x ∷ behind)
        × (is_member eq behind x ≡ false)
    last-at [] x is = absurd (true≢false (sym is))
    last-at (y ∷ xs) x is = by (last-at xs x) (is_member eq xs x) refl
      where
        here : (a b : Bool) → (a || b) ≡ true → b ≡ false → a ≡ true
        here true b told out = refl
        here false b told out = absurd (true≢false (sym told ∙ out))

        by : (is_member eq xs x ≡ true
            → (front : List A) × (behind : List A) × (xs ≡ front ++ x ∷ behind)
            × (is_member eq behind x ≡ false))
            → (b : Bool) → is_member eq xs x ≡ b
            → (front : List A) × (behind : List A) × (y ∷ xs ≡ front ++ x ∷ behind)
            × (is_member eq behind x ≡ false)
        by rest true later = let at = rest later in (y ∷ at.0, at.1, ap (λ l. y ∷ l) at.2, at.3)
        by rest false out = (
          [],
          xs,
          ap (λ z. z ∷ xs) (sym ((decides x y).0 (here (eq x y) (is_member eq xs x) is out))),
          out,
        )
