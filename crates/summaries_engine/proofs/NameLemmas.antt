-- Names, of which the first were gone through.
use Rattle.std.proofs.Common.{◌≡◌, zero, suc, ◌<◌, ℕ, ◌+◌, List, [], ◌∷◌, ◌++◌, map, length, get_or, take, take_all, Bor, Option, Some, refl, sym, subst, ◌∙◌, ap, arith}
use Rattle.std.proofs.lemmas.List.{get_or-map, length-map, take_more}
use Rattle.std.specs.List.{AllZip, IsFirstAndRest}
use Rattle.std.specs.Prelude.{◌≤◌, MatchOption}

-- the texts of names
abbrev pub texts : List (Bor (List ℕ)) → List (List ℕ)
texts names = map (λ name. name.now) names

-- one name more, and what goes with it
pub AllZip-more : {A B : Type 0} (R : A → B → Type 0) (xs : List A) (ys : List B) (x : A) (y : B)
    → AllZip R xs ys → R x y → AllZip R (xs ++ x ∷ []) (ys ++ y ∷ [])
AllZip-more R [] [] x y so_far one = (one, tt)
AllZip-more R (a ∷ xs) (b ∷ ys) x y so_far one = (so_far.0, AllZip-more R xs ys x y so_far.1 one)
AllZip-more R xs ys x y so_far one = absurd so_far

-- names up to a place, and then the others
pub names-from : (names : List (Bor (List ℕ))) (count : ℕ) (other : Bor (List ℕ))
    → count < length names → (after : List (List ℕ))
    × (texts names ≡ take count (texts names) ++ (get_or names count other).now ∷ after)
names-from [] count other within = absurd (omega (arith, within))
names-from (name ∷ names) zero other within = (texts names, refl)
names-from (name ∷ names) (suc count) other within =
    let rest = names-from names count other (omega (arith, within)) in
    (rest.0, ap (λ l. name.now ∷ l) rest.1)

-- the first names and the next
pub next-name : (names : List (Bor (List ℕ))) (count : ℕ) (other : Bor (List ℕ))
    → count < length names → take (count + 1) (texts names)
    ≡ take count (texts names) ++ (get_or names count other).now ∷ []
next-name names count other within =
    take_more (texts names) count []
    (subst (λ n. count < n) (sym (length-map names (λ name. name.now))) within)
    ∙ ap (λ n. take count (texts names) ++ n ∷ [])
    (get_or-map (λ name. name.now) names count other [] within)

-- all names
pub names-all : (names : List (Bor (List ℕ))) (count : ℕ) → length names ≤ count
    → take count (texts names) ≡ texts names
names-all names count last =
    take_all count (texts names)
    (subst (λ n. n ≤ count) (sym (length-map names (λ name. name.now))) last)

module _ (names : List (Bor (List ℕ)))
    {found : Option (Bor (Bor (List ℕ)) × Bor (List (Bor (List ℕ))))}
    {first : Bor (Bor (List ℕ))} {others : Bor (List (Bor (List ℕ)))}
    (is : found ≡ Some (first, others))
    (cut : MatchOption found (length names ≡ 0) (λ p. IsFirstAndRest names p.0.now p.1.now)) where
  -- the names are the first and the others
  pub first-name : texts names ≡ first.now.now ∷ texts others.now
  first-name =
      ap texts
      (subst (λ p. MatchOption p (length names ≡ 0) (λ q. IsFirstAndRest names q.0.now q.1.now)) is
      cut).0

  -- the first, the others up to a place, and those behind it
  pub names-behind : (count : ℕ) (other : Bor (List ℕ)) → count < length others.now
      → (after : List (List ℕ)) × (texts names ≡ first.now.now
      ∷ (take count (texts others.now) ++ (get_or others.now count other).now ∷ after))
  names-behind count other within =
      let from = names-from others.now count other within in
      (from.0, first-name ∙ ap (λ l. first.now.now ∷ l) from.1)

  -- the first, and all others
  pub names-whole : (count : ℕ) → length others.now ≤ count
      → texts names ≡ first.now.now ∷ take count (texts others.now)
  names-whole count last =
      first-name ∙ ap (λ l. first.now.now ∷ l) (sym (names-all others.now count last))
