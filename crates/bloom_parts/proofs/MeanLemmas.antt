-- In how many lists of draws a position is, and in how many it isn't. A rate is a mean.
use Rattle.std.proofs.Common.{◌≡◌, ℕ, zero, suc, ◌+◌, ◌-◌, ◌*◌, ◌^◌, ◌<◌, Bool, true, false, ◌||◌, ◌&&◌, eqb, if◌then◌else◌, List, ◌∷◌, refl, ap, ◌∙◌, sym, arith}
use Rattle.std.proofs.Math.Nat.{pow-zero, pow-suc, pow-succ'}
use Rattle.bloom_parts.proofs.Common.{count_on, sum_below, sum_draws, is_drawn, all_in, one_if, positives, ListsLaw, MeanLaw, PositivesLaw, PowersLaw}
use Rattle.bloom_parts.proofs.DrawLemmas.{draws-same, draws-add, draws-all, draws-none, draws-below}
use Rattle.bloom_parts.proofs.SumLemmas.{below-scale, below-const, below-same, below-others, sum-count}

-- the sum of f over the lists of draws that a position is not in
abbrev pub avoiding : ℕ → ℕ → ℕ → (List ℕ → ℕ) → ℕ
avoiding b p t f = sum_draws b t (λ d. if is_drawn d p then 0 else f d)

-- the lists that begin with one position
avoiding-first : (b p t : ℕ) (here : Bool) (f : List ℕ → ℕ) →
    sum_draws b t (λ d. if here || is_drawn d p then 0 else f d)
    ≡ (if here then 0 else avoiding b p t f)
avoiding-first b p t true f = draws-none b t
avoiding-first b p t false f = refl

-- the lists of one draw more
pub avoiding-next : (b p t : ℕ) (f : List ℕ → ℕ) → avoiding b p (suc t) f
    ≡ sum_below b (λ x. if eqb x p then 0 else avoiding b p t (λ d. f (x ∷ d)))
unfolding sum_draws is_drawn
avoiding-next b p t f =
    below-same b _ _ (λ x small. avoiding-first b p t (eqb x p) (λ d. f (x ∷ d)))

-- how many lists a position is not in
pub avoiding-all : (m p t : ℕ) → p < suc m → avoiding (suc m) p t (λ d. 1) ≡ m ^ t
unfolding sum_draws is_drawn
avoiding-all m p zero small = sym (pow-zero m)
avoiding-all m p (suc t) small =
    avoiding-next (suc m) p t (λ d. 1)
    ∙ below-same (suc m) _ _
    (λ x less. ap (λ v. if eqb x p then 0 else v) (avoiding-all m p t small))
    ∙ below-others m p (m ^ t) small ∙ sym (pow-succ' m t)

-- a number, by whether it counts
one-or-rest : (here : Bool) (a : ℕ) → a ≡ (if here then a else 0) + (if here then 0 else a)
one-or-rest true a = omega arith
one-or-rest false a = omega arith

-- a sum over all lists, by whether a position is in them
pub draws-split : (b p t : ℕ) (f : List ℕ → ℕ) → sum_draws b t f
    ≡ sum_draws b t (λ d. if is_drawn d p then f d else 0) + avoiding b p t f
draws-split b p t f =
    draws-same b t f _ (λ d. one-or-rest (is_drawn d p) (f d))
    ∙ draws-add b t (λ d. if is_drawn d p then f d else 0) (λ d. if is_drawn d p then 0 else f d)

-- how many lists a position is in
pub drawn-all : (m p t : ℕ) → p < suc m →
    sum_draws (suc m) t (λ d. one_if (is_drawn d p)) ≡ suc m ^ t - m ^ t
drawn-all m p t small =
    omega (arith, draws-split (suc m) p t (λ d. 1), draws-all (suc m) t, avoiding-all m p t small)

pub lists_law : ListsLaw
lists_law = draws-all

-- how many positions were drawn, over all lists of draws
pub mean-suc : (m t : ℕ) →
    sum_draws (suc m) t (λ d. count_on (is_drawn d) (suc m)) ≡ suc m * (suc m ^ t - m ^ t)
mean-suc m t =
    draws-same (suc m) t _ _ (λ d. sym (sum-count (is_drawn d) (suc m)))
    ∙ draws-below (suc m) t (suc m) (λ d p. one_if (is_drawn d p))
    ∙ below-same (suc m) _ _ (λ p small. drawn-all m p t small)
    ∙ below-const (suc m) (suc m ^ t - m ^ t)

pub mean_law : MeanLaw
mean_law zero t some = absurd (omega arith)
mean_law (suc m) t some = let less : suc m - 1 ≡ m = omega arith in rw less (mean-suc m t)

-- a position of a query that is in a set leaves the rest to be asked
query-first : (b k : ℕ) (here : Bool) (A : ℕ → Bool) →
    sum_draws b k (λ q. one_if (here && all_in A q)) ≡ positives b k A * one_if here
query-first b k true A = omega arith
query-first b k false A = omega (arith, draws-none b k)

pub positives_law : PositivesLaw
unfolding sum_draws all_in
positives_law b zero A = sym (pow-zero (count_on A b))
positives_law b (suc k) A =
    below-same b _ _ (λ p small. query-first b k (A p) A)
    ∙ below-scale b (positives b k A) (λ p. one_if (A p))
    ∙ ap (λ v. positives b k A * v) (sum-count A b)
    ∙ ap (λ v. v * count_on A b) (positives_law b k A)
    ∙ sym (pow-suc (count_on A b) k)

pub powers_law : PowersLaw
powers_law b t k = draws-same b t _ _ (λ d. positives_law b k (is_drawn d))
