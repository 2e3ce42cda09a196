-- The views of seats in a list, and their number of passes.
use Rattle.std.proofs.Common.{◌≡◌, ℕ, zero, suc, ◌+◌, ◌<◌, List, [], ◌∷◌, length, set, get_or, sum_by, refl, sym, ap, ◌∙◌, subst, arith}
use mathlib.Core.Option.{some, some-injective, some-ne-none}
use lib.ListN.{get_elem?}
use Rattle.std.proofs.lemmas.List.Sums.{sum_by-set}
use Rattle.fastbloom.proofs.Common.{Standing, IsSeated, passes_of, Sets}

-- a seat that has a view is one of them
pub seat-within : (l : List Sets) (seat : ℕ) (v : Sets) → get_elem? l seat ≡ some v
    → seat < length l
seat-within [] seat v at = absurd (some-ne-none v (sym at))
seat-within (x ∷ xs) zero v at = omega arith
seat-within (x ∷ xs) (suc seat) v at = let below = seat-within xs seat v at in omega arith

-- the list reads a seat's view at the seat
pub seat-read : (l : List Sets) (seat : ℕ) (v : Sets) → get_elem? l seat ≡ some v
    → get_or l seat v ≡ v
seat-read [] seat v at = refl
seat-read (x ∷ xs) zero v at = some-injective x v at
seat-read (x ∷ xs) (suc seat) v at = seat-read xs seat v at

-- the only seat's view
pub only-view : (w v : Sets) (seat : ℕ) → get_elem? (w ∷ []) seat ≡ some v → w ≡ v
only-view w v zero at = some-injective w v at
only-view w v (suc seat) at = absurd (some-ne-none v (sym at))

-- the number of passes as one view changes
pub passes-set : (l : List Sets) (seat : ℕ) (v w : Sets) → get_elem? l seat ≡ some v
    → sum_by passes_of (set l seat w) + v.passes ≡ sum_by passes_of l + w.passes
passes-set l seat v w at =
    let more = sum_by-set passes_of l seat w v (seat-within l seat v at) in
    ap (λ (u : Sets). sum_by passes_of (set l seat w) + u.passes) (sym (seat-read l seat v at))
    ∙ more

-- a rule of one number of passes is one of an equal number
pub as-many : {words a b : ℕ} {s : Standing} → a ≡ b → IsSeated words a s → IsSeated words b s
as-many {words} {a} {b} {s} same rule = subst (λ n. IsSeated words n s) same rule
