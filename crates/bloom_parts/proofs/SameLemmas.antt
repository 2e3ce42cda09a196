-- Lists of words that are compared eight at a time.
use Rattle.std.proofs.Common.{◌≡◌, ℕ, ◌+◌, ◌-◌, ◌%◌, ◌≤◌, ◌^◌, List, [], ◌∷◌, ◌++◌, Bool, IsTrue, not, eqb, nat_eq, cond, map, take, length, w64, lit≤, refl, ap, sym, subst, ◌∙◌, arith, rules}
use Rattle.bloom_parts.proofs.Common.{take-add, nat_tests}
use Rattle.std.proofs.lemmas.Simd.{length-zip2, mask_l-mod, tops_compared}
use lib.Lanes.{chunk, mask_l, top, zip2}

-- a front that is equal in both lists, one group longer
pub same-front : (i n m : ℕ) (xs ys : List ℕ) → m ≡ i + n → take i xs ≡ take i ys
    → chunk i n xs ≡ chunk i n ys → take m xs ≡ take m ys
same-front i n m xs ys to front group =
    rw to (take-add i n xs ∙ ap (λ l. l ++ chunk i n xs) front
    ∙ ap (λ l. take i ys ++ l) group ∙ sym (take-add i n ys))

-- whether two lanes differ
abbrev differ : ℕ → ℕ → Bool
differ a b = not (eqb a b)

-- where no lane differs, the lists are equal
same-from_mask : (xs ys : List ℕ) → length xs ≡ length ys → mask_l (zip2 differ xs ys) ≡ 0
    → xs ≡ ys
same-from_mask [] [] long none = refl
same-from_mask [] (y ∷ ys) long none = absurd (omega arith)
same-from_mask (x ∷ xs) [] long none = absurd (omega arith)
same-from_mask (x ∷ xs) (y ∷ ys) long none =
    let rest : xs ≡ ys = same-from_mask xs ys (omega arith) (omega arith) in
    let head : x ≡ y = grind (arith, nat_tests) in
    rw (head, rest) refl

-- where they are equal, no lane differs
mask-from_same : (xs : List ℕ) → mask_l (zip2 differ xs xs) ≡ 0
mask-from_same [] = refl
mask-from_same (x ∷ xs) = grind (arith, nat_tests, mask-from_same xs)

-- the bits of a comparison of lanes, one for each lane
abbrev bits_of : List ℕ → List ℕ → ℕ
bits_of xs ys =
    mask_l (map (top 63) (zip2 (λ a b. cond (differ a b) (2 ^ 64 - 1) 0) xs ys)) % 2 ^ 64

-- a comparison of eight lanes tells whether the lists are equal
pub same-lanes : (xs ys : List ℕ) → length xs ≡ 8 → length ys ≡ 8
    → (IsTrue (nat_eq (bits_of xs ys) 0) → xs ≡ ys) × (xs ≡ ys → IsTrue (nat_eq (bits_of xs ys) 0))
same-lanes xs ys long long' =
    let fits : length (zip2 differ xs ys) ≤ 64 =
    rw (length-zip2 differ xs ys (omega arith), long) (lit≤ tt) in
    let is : bits_of xs ys ≡ mask_l (zip2 differ xs ys) =
    ap (λ l. mask_l l % 2 ^ 64) (tops_compared w64 differ xs ys)
    ∙ mask_l-mod (zip2 differ xs ys) 64 fits in
    rw is (
      (λ none. same-from_mask xs ys (omega arith) (grind (arith, nat_tests))),
      (λ same.
          subst (λ l. IsTrue (nat_eq (mask_l (zip2 differ xs l)) 0)) same
          (rw (mask-from_same xs) (search rules))),
    )
