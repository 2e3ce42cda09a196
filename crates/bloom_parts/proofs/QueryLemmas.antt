-- In how many lists of draws all of a query are, by one position of the query after the other.
use Rattle.std.proofs.Common.{◌≡◌, ℕ, zero, suc, ◌+◌, ◌-◌, ◌*◌, ◌^◌, ◌<◌, ◌≤◌, Bool, true, false, ◌||◌, ◌&&◌, eqb, if◌then◌else◌, List, [], ◌∷◌, length, refl, ap, ap₂, ◌∙◌, arith, inl, inr}
use Rattle.std.proofs.lemmas.Bool.{cases_eq, cases_Bool, cond-true, cond-false, eq-eqb, ne_eqb}
use Rattle.bloom_parts.proofs.Common.{mul-pow, pow-add, mul-le-mul_left, mul-le-mul_right, pow-le-pow_left, pow-suc, pow-zero, sum_below, sum_draws, is_drawn, all_in, one_if, false_positives}
use Rattle.bloom_parts.proofs.DrawLemmas.{draws-le, draws-same, draws-scale, draws-all, draws-below, draws-draws}
use Rattle.bloom_parts.proofs.MeanLemmas.{avoiding, draws-split}
use Rattle.bloom_parts.proofs.SumLemmas.{below-add, below-scale, below-const, below-le}
use Rattle.bloom_parts.proofs.AvoidLemmas.{avoid-more, query-grows}

-- in how many lists of draws all of a query are
abbrev answers : ℕ → ℕ → List ℕ → ℕ
answers b t q = sum_draws b t (λ d. one_if (all_in (is_drawn d) q))

-- two tests that both hold
one-both : (here rest : Bool) → (if here then one_if rest else 0) ≡ one_if (here && rest)
one-both true rest = refl
one-both false rest = refl

-- those lists, by whether one more position is in them
answers-split : (b p t : ℕ) (q : List ℕ) → answers b t q
    ≡ answers b t (p ∷ q) + avoiding b p t (λ d. one_if (all_in (is_drawn d) q))
unfolding all_in
answers-split b p t q =
    draws-split b p t (λ d. one_if (all_in (is_drawn d) q))
    ∙ ap (λ v. v + avoiding b p t (λ d. one_if (all_in (is_drawn d) q)))
    (draws-same b t _ _ (λ d. one-both (is_drawn d p) (all_in (is_drawn d) q)))

-- a position that a query doesn't name yet is in a smaller share of them than of all lists
answers-new : (m p t : ℕ) (q : List ℕ) → p < suc m → is_drawn q p ≡ false →
    suc m ^ t * answers (suc m) t (p ∷ q) ≤ (suc m ^ t - m ^ t) * answers (suc m) t q
answers-new m p t q small out =
    let lists : ℕ = answers (suc m) t q in
    let avoid : ℕ = avoiding (suc m) p t (λ d. one_if (all_in (is_drawn d) q)) in
    let some : m ^ t ≤ suc m ^ t = pow-le-pow_left (omega arith) t in
    let all : suc m ^ t ≡ (suc m ^ t - m ^ t) + m ^ t = omega (arith, some) in
    let more : m ^ t * lists ≤ suc m ^ t * avoid =
    avoid-more m p t (λ d. one_if (all_in (is_drawn d) q)) small (query-grows q p out) in
    let split : suc m ^ t * lists ≡ suc m ^ t * (answers (suc m) t (p ∷ q) + avoid) =
    ap (λ v. suc m ^ t * v) (answers-split (suc m) p t q) in
    let parts : suc m ^ t * lists ≡ ((suc m ^ t - m ^ t) + m ^ t) * lists =
    ap (λ v. v * lists) all in
    omega (arith, more, split, parts)

-- one that it names already is in all of them
answers-next : (m p t : ℕ) (q : List ℕ) → p < suc m →
    suc m ^ t * answers (suc m) t (p ∷ q)
    ≤ answers (suc m) t q * ((suc m ^ t - m ^ t) + m ^ t * one_if (is_drawn q p))
answers-next m p t q small = elim (cases_Bool (is_drawn q p)) [
  | inl named ↦
      let some : m ^ t ≤ suc m ^ t = pow-le-pow_left (omega arith) t in
      let all : (suc m ^ t - m ^ t) + m ^ t * 1 ≡ suc m ^ t = omega (arith, some) in
      let less : answers (suc m) t (p ∷ q) ≤ answers (suc m) t q =
      omega (arith, answers-split (suc m) p t q) in
      rw (named, all) (omega (arith, mul-le-mul_left (suc m ^ t) less))
  | inr out ↦ rw out (omega (arith, answers-new m p t q small out))
]

-- one position is one at most
one-once : (b x : ℕ) → (b ≤ x → sum_below b (λ p. one_if (eqb x p)) ≡ 0)
    × (sum_below b (λ p. one_if (eqb x p)) ≤ 1)
unfolding sum_below
one-once zero x = (λ over. refl, omega arith)
one-once (suc b) x =
    let before = one-once b x in
    elim (cases_eq x b) [
      | inl here ↦
          let last : one_if (eqb x b) ≡ 1 = cond-true (eqb x b) 1 0 (eq-eqb x b here) in
          (λ over. absurd (omega arith), omega (arith, before.0 (omega arith), last))
      | inr apart ↦
          let last : one_if (eqb x b) ≡ 0 = cond-false (eqb x b) 1 0 (ne_eqb x b apart) in
          (λ over. omega (arith, before.0 (omega arith), last), omega (arith, before.1, last))
    ]

-- two tests of which one holds
one-either : (here rest : Bool) → one_if (here || rest) ≤ one_if here + one_if rest
one-either true rest = omega arith
one-either false rest = omega arith

-- how many positions a query names
abbrev named : ℕ → List ℕ → ℕ
named b q = sum_below b (λ p. one_if (is_drawn q p))

-- a query names no more positions than it has
named-length : (b : ℕ) (q : List ℕ) → named b q ≤ length q
unfolding is_drawn
named-length b [] = omega (arith, below-const b 0)
named-length b (x ∷ q) =
    let each = below-le b (λ p. one_if (eqb x p || is_drawn q p))
    (λ p. one_if (eqb x p) + one_if (is_drawn q p))
    (λ p small. one-either (eqb x p) (is_drawn q p)) in
    omega (
      arith,
      each,
      below-add b (λ p. one_if (eqb x p)) (λ p. one_if (is_drawn q p)),
      (one-once b x).1,
      named-length b q,
    )

-- a position more, over all positions
answers-sum : (m t k : ℕ) (q : List ℕ) → length q ≡ k →
    suc m ^ t * sum_below (suc m) (λ p. answers (suc m) t (p ∷ q))
    ≤ ((suc m ^ t - m ^ t) * suc m + m ^ t * k) * answers (suc m) t q
answers-sum m t k q long =
    let drawn : ℕ = suc m ^ t - m ^ t in
    let lists : ℕ = answers (suc m) t q in
    let each = below-le (suc m) (λ p. suc m ^ t * answers (suc m) t (p ∷ q))
    (λ p. lists * (drawn + m ^ t * one_if (is_drawn q p)))
    (λ p small. answers-next m p t q small) in
    let left = below-scale (suc m) (suc m ^ t) (λ p. answers (suc m) t (p ∷ q)) in
    let outer = below-scale (suc m) lists (λ p. drawn + m ^ t * one_if (is_drawn q p)) in
    let inner : sum_below (suc m) (λ p. drawn + m ^ t * one_if (is_drawn q p))
    ≡ suc m * drawn + m ^ t * named (suc m) q =
    below-add (suc m) (λ p. drawn) (λ p. m ^ t * one_if (is_drawn q p))
    ∙ ap₂ (λ v w. v + w) (below-const (suc m) drawn)
    (below-scale (suc m) (m ^ t) (λ p. one_if (is_drawn q p))) in
    let few : named (suc m) q ≤ k = omega (arith, named-length (suc m) q, long) in
    let most : lists * (suc m * drawn + m ^ t * named (suc m) q)
    ≤ lists * (suc m * drawn + m ^ t * k) =
    mul-le-mul_left lists (omega (arith, mul-le-mul_left (m ^ t) few)) in
    let whole : sum_below (suc m) (λ p. lists * (drawn + m ^ t * one_if (is_drawn q p)))
    ≡ lists * (suc m * drawn + m ^ t * named (suc m) q) = outer ∙ ap (λ v. lists * v) inner in
    omega (arith, each, left, whole, most)

-- false positives, by the query
by-query : (b t k : ℕ) → false_positives b t k ≡ sum_draws b k (answers b t)
by-query b t k = draws-draws b t k (λ d q. one_if (all_in (is_drawn d) q))

-- a position more in each query
queries-next : (m t k : ℕ) → suc m ^ t * sum_draws (suc m) (suc k) (answers (suc m) t)
    ≤ ((suc m ^ t - m ^ t) * suc m + m ^ t * k) * sum_draws (suc m) k (answers (suc m) t)
unfolding sum_draws
queries-next m t k =
    let share : ℕ = (suc m ^ t - m ^ t) * suc m + m ^ t * k in
    let next : List ℕ → ℕ = λ q. sum_below (suc m) (λ p. answers (suc m) t (p ∷ q)) in
    let turned = draws-below (suc m) k (suc m) (λ q p. answers (suc m) t (p ∷ q)) in
    let each = draws-le (suc m) k (λ q. suc m ^ t * next q) (λ q. share * answers (suc m) t q)
    (λ q long. answers-sum m t k q long) in
    rw (← turned) (omega (
      arith,
      each,
      draws-scale (suc m) k (suc m ^ t) next,
      draws-scale (suc m) k share (answers (suc m) t),
    ))

-- the product of k numbers, the first of which is a and each other e more than the one before
unfoldable pub rising : ℕ → ℕ → ℕ → ℕ
rising a e zero = 1
rising a e (suc k) = rising a e k * (a + e * k)

-- a step of the induction, over numbers
product-step : (whole share next now power root : ℕ) → whole * next ≤ share * now →
    now * power ≤ whole * root → next * (power * whole) ≤ whole * (root * share)
product-step whole share next now power root step before =
    omega (arith, mul-le-mul_right power step, mul-le-mul_left share before)

-- the queries of k positions
queries-product : (m t k : ℕ) → sum_draws (suc m) k (answers (suc m) t) * (suc m ^ t) ^ k
    ≤ suc m ^ t * rising ((suc m ^ t - m ^ t) * suc m) (m ^ t) k
unfolding sum_draws all_in rising
queries-product m t zero = rw (draws-all (suc m) t, pow-zero (suc m ^ t)) (omega arith)
queries-product m t (suc k) =
    rw (pow-suc (suc m ^ t) k)
    (product-step (suc m ^ t) ((suc m ^ t - m ^ t) * suc m + m ^ t * k)
    (sum_draws (suc m) (suc k) (answers (suc m) t)) (sum_draws (suc m) k (answers (suc m) t))
    ((suc m ^ t) ^ k) (rising ((suc m ^ t - m ^ t) * suc m) (m ^ t) k)
    (queries-next m t k) (queries-product m t k))

-- a power more on both sides
with-power : (count power whole root extra : ℕ) → count * power ≤ whole * root →
    count * (power * extra) ≤ (whole * extra) * root
with-power count power whole root extra less = omega (arith, mul-le-mul_right extra less)

-- false positives are at most a product over the positions of the query
pub positives-product : (m t k : ℕ) → false_positives (suc m) t k * (suc m ^ t * suc m) ^ k
    ≤ suc m ^ (t + k) * rising ((suc m ^ t - m ^ t) * suc m) (m ^ t) k
positives-product m t k =
    rw (by-query (suc m) t k, mul-pow (suc m ^ t) (suc m) k, pow-add (suc m) t k)
    (with-power (sum_draws (suc m) k (answers (suc m) t)) ((suc m ^ t) ^ k) (suc m ^ t)
    (rising ((suc m ^ t - m ^ t) * suc m) (m ^ t) k) (suc m ^ k) (queries-product m t k))
