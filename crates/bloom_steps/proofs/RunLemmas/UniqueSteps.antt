-- What a step finds, and how it ends its call, is one.
use Rattle.std.proofs.Common.{[], ◌%◌, ◌*◌, ◌++◌, ◌+◌, ◌/◌, ◌<◌, ◌∙◌, ◌∷◌, ◌≡◌, Bool, List, ap, arith, false, inl, inr, length, length-append, nat_eq, refl, suc, sym, true, ℕ}
use Rattle.bloom_steps.proofs.Common.{member-front, member-seam, member_of_more, both_ways, bit_at, bit_is_on, place, Call, Answer, Step, Other, Zero, LooksAt, Plan, TurnsOn, plan_of, Any, IsLastEnd, IsScript, Taken, Fulfils, nat_tests, IsWordOf, MayFind, word_index}
use Rattle.std.proofs.lemmas.Nat.Bits.{bit_at-lt, same_from_bits_below}
use Rattle.bloom_steps.proofs.StepLemmas.Growing.{length-more}

-- digits that are 1 together are the same
digit-same : (a b : ℕ) → a < 2 → b < 2 → nat_eq a 1 ≡ nat_eq b 1 → a ≡ b
digit-same a b l m e = grind (arith, nat_tests)

-- a set has one word at an index
word_there-same : (A : ℕ → Bool) (i a b : ℕ) → IsWordOf A i a → IsWordOf A i b → a ≡ b
word_there-same A i a b f g = same_from_bits_below 64 a b f.fits g.fits (λ j l.
    let p = 64 * i + j in
    let low : p % 64 ≡ j = omega arith in
    let here : p / 64 ≡ i = omega arith in
    digit-same (bit_at a j) (bit_at b j) (bit_at-lt a j) (bit_at-lt b j)
    (ap (λ x. nat_eq (bit_at a x) 1) (sym low) ∙ f.bits p here ∙ sym (g.bits p here)
    ∙ ap (λ x. nat_eq (bit_at b x) 1) low))

-- what is found is one, where another filter's word is given
pub found-same : (A : ℕ → Bool) (given : ℕ) (step : Step) (a b : ℕ) → MayFind A step a
    → MayFind A step b
    → ((i : ℕ) → step ≡ Other i → a ≡ given) → ((i : ℕ) → step ≡ Other i → b ≡ given) → a ≡ b
found-same A given (Zero i) a b f g x y = f ∙ sym g
found-same A given (Other i) a b f g x y = x i refl ∙ sym (y i refl)
found-same A given step a b f g x y = word_there-same A (word_index step) a b f g

-- steps that differ in the end of the last alone have found the same
any_off-same : (w h : ℕ) (s : List Taken) (t u : Taken) → t.found ≡ u.found
    → Any (s ++ t ∷ []) (λ i t. bit_is_on t.found (place (64 * w) h i) ≡ false)
    → Any (s ++ u ∷ []) (λ i t. bit_is_on t.found (place (64 * w) h i) ≡ false)
any_off-same w h s t u e (i, v, here, off) = elim (member_of_more s t v i here) [
  | inl p ↦ (i, v, member-front s (u ∷ []) v i p.1, off)
  | inr q ↦
      let last = place (64 * w) h (length s) in (
        length s,
        u,
        member-seam s [] u,
        ap (λ f. bit_is_on f last) (sym e) ∙ ap (λ (x : Taken). bit_is_on x.found last) (sym q.1)
            ∙ ap (λ j. bit_is_on v.found (place (64 * w) h j)) (sym q.0) ∙ off,
      )
]

-- tests that fail together are the same
alike : (a b : Bool) → (a ≡ false → b ≡ false) → (b ≡ false → a ≡ false) → a ≡ b
alike true true f g = refl
alike true false f g = g refl
alike false true f g = sym (f refl)
alike false false f g = refl

-- how the last step ends a script is one
last-same : (w k : ℕ) (call : Call) (s : List Taken) (t u : Taken) → t.found ≡ u.found
    → IsScript w k call (s ++ t ∷ [])
    → IsScript w k call (s ++ u ∷ []) → t.ended ≡ u.ended
last-same w k call s t u e a b =
    by_plan (plan_of call) (a.last (length s) t (member-seam s [] t) (closes t))
    (b.last (length s) u (member-seam s [] u) (closes u))
  where
    closes : (v : Taken) → length s + 1 ≡ length (s ++ v ∷ [])
    closes v = sym (length-more s v)

    by_plan : (plan : Plan) → IsLastEnd w plan (s ++ t ∷ []) t.ended
        → IsLastEnd w plan (s ++ u ∷ []) u.ended → t.ended ≡ u.ended
    by_plan (TurnsOn h) (first, is_first, from_first) (second, is_second, from_second) =
        is_first
        ∙ ap Answer
        (alike first second (λ x. from_second.1 (any_off-same w h s t u e (from_first.0 x)))
        (λ x. from_first.1 (any_off-same w h s u t (sym e) (from_second.0 x))))
        ∙ sym is_second
    by_plan (LooksAt h) a b =
        a (length s) t (member-seam s [] t) (closes t)
        ∙ ap (λ f. Answer (bit_is_on f (place (64 * w) h (length s)))) e
        ∙ sym (b (length s) u (member-seam s [] u) (closes u))
    by_plan plan a b = a ∙ sym b

-- a script that ends here is no front of another that found the same
ends_here : (w k : ℕ) (call : Call) (s rest : List Taken) (t u v : Taken) → t.found ≡ u.found
    → IsScript w k call (s ++ t ∷ [])
    → IsScript w k call (s ++ u ∷ (v ∷ rest)) → ⊥
ends_here w k call s rest t u v e a b =
    by_plan (plan_of call) a b (length-more s t) (length-append s (u ∷ (v ∷ rest)))
  where
    by_plan : (plan : Plan) → Fulfils w k plan (s ++ t ∷ [])
        → Fulfils w k plan (s ++ u ∷ (v ∷ rest))
        → length (s ++ t ∷ []) ≡ length s + 1
        → length (s ++ u ∷ (v ∷ rest)) ≡ length s + suc (suc (length rest)) → ⊥
    by_plan (LooksAt h) a b l n =
        let y = b.count in
        let here = place (64 * w) h (length s) in
        let off = a.stops.early (length s) t (member-seam s [] t) (omega arith) (omega arith) in
        let on = b.stops.earlier (length s) u (member-seam s (v ∷ rest) u) (omega arith) in
        both_ways (bit_is_on u.found here) (ap (λ f. bit_is_on f here) (sym e) ∙ off) on
    by_plan plan a b l n = let x = a.count in let y = b.count in omega arith

-- how a step leaves its call is one
pub end-same : (w k : ℕ) (call : Call) (s x y : List Taken) (t u : Taken) → t.found ≡ u.found
    → IsScript w k call (s ++ t ∷ x)
    → IsScript w k call (s ++ u ∷ y) → t.ended ≡ u.ended
end-same w k call s [] [] t u e a b = last-same w k call s t u e a b
end-same w k call s [] (v ∷ y) t u e a b = absurd (ends_here w k call s y t u v e a b)
end-same w k call s (v ∷ x) [] t u e a b = absurd (ends_here w k call s x u t v (sym e) b a)
end-same w k call s (v ∷ x) (z ∷ y) t u e a b =
    let first = length-append s (t ∷ (v ∷ x)) in
    let second = length-append s (u ∷ (z ∷ y)) in
    a.running (length s) t (member-seam s (v ∷ x) t) (omega arith)
    ∙ sym (b.running (length s) u (member-seam s (z ∷ y) u) (omega arith))
