-- What some steps found, and one step more.
use Rattle.std.proofs.Common.{[], ◌&&◌, ◌*◌, ◌++◌, ◌↔◌, ◌∙◌, ◌∷◌, ◌≡◌, ◌⊎◌, Bool, List, Some, ap, false, inl, inr, length, refl, slice_get, subst, sym, true, ℕ}
use Rattle.bloom_steps.proofs.Common.{member-front, member-seam, member_of_more, and_right, bit_is_on, place, Answer, TurnsOn, Any, IsLastEnd, Taken}

-- what some step has, some of more have
any_front : (s : List Taken) (t : Taken) (P : ℕ → Taken → Type 0) → Any s P → Any (s ++ t ∷ []) P
any_front s t P (i, u, here, has) = (i, u, member-front s (t ∷ []) u i here, has)

-- what the last step has, some have
any_last : (s : List Taken) (t : Taken) (P : ℕ → Taken → Type 0) → P (length s) t
    → Any (s ++ t ∷ []) P
any_last s t P has = (length s, t, member-seam s [] t, has)

-- what some of one step more have, some earlier one or the last has
any_split : (s : List Taken) (t : Taken) (P : ℕ → Taken → Type 0) → Any (s ++ t ∷ []) P
    → Any s P ⊎ P (length s) t
any_split s t P (i, u, here, has) =
    elim (member_of_more s t u i here) [
      | inl p ↦ inl (i, u, p.1, has)
      | inr q ↦ inr (subst (λ j. P j t) q.0 (subst (λ v. P i v) q.1 has))
    ]

-- where a step found its bit clear, setting the positions of a hash ends with false
pub ends-off : (w hash : ℕ) (s : List Taken) (i : ℕ) (t : Taken) → slice_get s i ≡ Some t
    → bit_is_on t.found (place (64 * w) hash i) ≡ false
    → IsLastEnd w (TurnsOn hash) s (Answer false)
ends-off w hash s i t here off = (false, refl, ((λ _. (i, t, here, off)), (λ _. refl)))

-- whether no step has something, after one more
pub none-more : (s : List Taken) (t : Taken) (P : ℕ → Taken → Type 0) (before on : Bool)
    → ((before ≡ false) ↔ Any s P) → ((on ≡ false) ↔ P (length s) t)
    → ((before && on) ≡ false) ↔ Any (s ++ t ∷ []) P
none-more s t P before on is here = (
  (λ off. go before refl off),
  (λ some. elim (any_split s t P some) [
    | inl earlier ↦ ap (λ b. b && on) (is.1 earlier)
    | inr last ↦ and_right before on (here.1 last)
  ]),
)
  where
    go : (b : Bool) → before ≡ b → (before && on) ≡ false → Any (s ++ t ∷ []) P
    go false was off = any_front s t P (is.0 was)
    go true was off = any_last s t P (here.0 (sym (ap (λ b. b && on) was) ∙ off))
