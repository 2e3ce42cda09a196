-- What deciders, one after the other, make of a set.
use Rattle.std.proofs.Common.{[], ◌++◌, ◌∙◌, ◌∷◌, ◌≡◌, Bool, List, ap, map, unwrap_or, ℕ}
use Rattle.bloom_steps.proofs.Common.{map-append, Decider, last_decision, state, state-append, Record, after_records, record_decides}

-- the first decider can be taken into the set before
pub state-first : (A : ℕ → Bool) (d : Decider) (ds : List Decider) (p : ℕ)
    → state A (d ∷ ds) p ≡ state (λ q. unwrap_or (d q) (A q)) ds p
state-first A d ds p = state-append A (d ∷ []) ds p

-- a bit after looks at the set before at its own position alone
pub state-same : (A B : ℕ → Bool) (ds : List Decider) (p : ℕ) → A p ≡ B p
    → state A ds p ≡ state B ds p
state-same A B ds p e = ap (unwrap_or (last_decision ds p)) e

-- records in two parts, one after the other
pub records-append : (A : ℕ → Bool) (xs ys : List Record) (p : ℕ)
    → after_records A (xs ++ ys) p ≡ after_records (after_records A xs) ys p
records-append A xs ys p =
    ap (λ l. state A l p) (map-append record_decides xs ys)
    ∙ state-append A (map record_decides xs) (map record_decides ys) p

-- one record more at the end
pub records-more : (A : ℕ → Bool) (rs : List Record) (r : Record) (p : ℕ)
    → after_records A (rs ++ r ∷ []) p ≡ unwrap_or (record_decides r p) (after_records A rs p)
records-more A rs r p = records-append A rs (r ∷ []) p
