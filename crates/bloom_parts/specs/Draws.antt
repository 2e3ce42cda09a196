-- Draws of positions, counted: each draw takes one of b positions, all alike and whatever the
-- others took, so that all lists of t draws are as likely (B. H. Bloom, 1970). A number of such
-- lists, in parts of all of them, is a chance.
use Rattle.std.specs.Prelude.{◌≡◌, ℕ, zero, suc, ◌+◌, ◌-◌, ◌*◌, ◌^◌, ◌<◌, ◌≤◌, Bool, true, false, ◌||◌, ◌&&◌, ◌==◌, if◌then◌else◌, List, [], ◌∷◌}
use Rattle.bloom_parts.specs.Counts.{count_on}

-- the sum of a function's values below b
unfoldable pub sum_below : ℕ → (ℕ → ℕ) → ℕ
sum_below zero g = 0
sum_below (suc b) g = sum_below b g + g b

-- the sum of a function's values over all lists of t draws
unfoldable pub sum_draws : ℕ → ℕ → (List ℕ → ℕ) → ℕ
sum_draws b zero f = f []
sum_draws b (suc t) f = sum_below b (λ p. sum_draws b t (λ d. f (p ∷ d)))

-- the set of the positions that were drawn
unfoldable pub is_drawn : List ℕ → ℕ → Bool
is_drawn [] p = false
is_drawn (x ∷ d) p = x == p || is_drawn d p

-- whether each position of a query is in a set
unfoldable pub all_in : (ℕ → Bool) → List ℕ → Bool
all_in A [] = true
all_in A (p ∷ q) = A p && all_in A q

-- 1 where it holds, else 0
abbrev pub one_if : Bool → ℕ
one_if holds = if holds then 1 else 0

-- how many of the b ^ k queries of k draws find all their positions in a set
abbrev pub positives : ℕ → ℕ → (ℕ → Bool) → ℕ
positives b k A = sum_draws b k (λ q. one_if (all_in A q))

-- how many of the b ^ (t + k) pairs of t draws and a query of k draws are a false positive: each
-- position of the query was drawn
abbrev pub false_positives : ℕ → ℕ → ℕ → ℕ
false_positives b t k = sum_draws b t (λ d. positives b k (is_drawn d))

-- in how many of the b ^ t lists of draws a position is
abbrev pub drawn_lists : ℕ → ℕ → ℕ
drawn_lists b t = b ^ t - (b - 1) ^ t

-- there are b ^ t lists of t draws
abbrev pub ListsLaw : Type 0
ListsLaw = (b t : ℕ) → sum_draws b t (λ _. 1) ≡ b ^ t

-- the mean share of the b positions that were drawn is 1 - (1 - 1 / b) ^ t
abbrev pub MeanLaw : Type 0
MeanLaw =
    (b t : ℕ) → 0 < b → sum_draws b t (λ d. count_on (is_drawn d) b) ≡ b * drawn_lists b t

-- of the b ^ k queries of k positions, as many lie wholly in a set as its size to the power k
abbrev pub PositivesLaw : Type 0
PositivesLaw = (b k : ℕ) (A : ℕ → Bool) → positives b k A ≡ count_on A b ^ k

-- the rate is the mean of the power to k of the share that was drawn
abbrev pub PowersLaw : Type 0
PowersLaw =
    (b t k : ℕ) → false_positives b t k ≡ sum_draws b t (λ d. count_on (is_drawn d) b ^ k)

-- the power to k of the mean share, which is the classical formula, is at most the rate
-- (P. Bose et al., "On the false-positive rate of Bloom filters", 2008)
abbrev pub FormulaLaw : Type 0
FormulaLaw = (b t k : ℕ) → 0 < b →
    drawn_lists b t ^ k * b ^ (t + k) ≤ false_positives b t k * (b ^ t) ^ k

-- the rate is at most the power to k of the mean share and (k - 1) / (2 * b) of what is left of it
abbrev pub UpperLaw : Type 0
UpperLaw = (b t k : ℕ) → 0 < b → false_positives b t k * (b ^ t * (2 * b)) ^ k
    ≤ b ^ (t + k) * (drawn_lists b t * (2 * b) + (b ^ t - drawn_lists b t) * (k - 1)) ^ k
