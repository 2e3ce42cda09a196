-- To avoid a position makes it likelier to draw all of a query that doesn't name it: among the
-- lists of draws that avoid it, the share that answers the query with true is at least that of all.
use Rattle.std.proofs.Common.{◌≡◌, ℕ, zero, suc, ◌+◌, ◌*◌, ◌^◌, ◌<◌, ◌≤◌, Bool, true, false, ◌||◌, ◌&&◌, eqb, if◌then◌else◌, List, [], ◌∷◌, ◌++◌, refl, ap, ap₂, sym, arith}
use Rattle.std.proofs.lemmas.Bool.{ne_eqb, eqb-false, and_parts, and_from, or_parts, or_right}
use Rattle.bloom_parts.proofs.Common.{mul-le-mul_left, pow-suc, pow-zero, sum_below, sum_draws, is_drawn, all_in, one_if}
use Rattle.bloom_parts.proofs.DrawLemmas.{draws-le}
use Rattle.bloom_parts.proofs.MeanLemmas.{avoiding, avoiding-next}
use Rattle.bloom_parts.proofs.SumLemmas.{below-scale, below-le, below-split, below-others}

-- what holds more often counts more
one-le : (a b : Bool) → (a ≡ true → b ≡ true) → one_if a ≤ one_if b
one-le true b more = rw (more refl) (omega arith)
one-le false b more = omega arith

-- a draw more takes no position away
drawn-more : (e d : List ℕ) (x p : ℕ) → is_drawn (e ++ d) p ≡ true →
    is_drawn (e ++ x ∷ d) p ≡ true
unfolding is_drawn
drawn-more [] d x p holds = or_right (eqb x p) (is_drawn d p) holds
drawn-more (y ∷ e) d x p holds =
    elim (eqb y p) as (λ here. (here || is_drawn (e ++ d) p) ≡ true →
    (here || is_drawn (e ++ x ∷ d) p) ≡ true) [
      | true ↦ λ first. refl
      | false ↦ λ rest. drawn-more e d x p rest
    ] holds

-- a draw of another position changes nothing
drawn-other : (e d : List ℕ) (x p : ℕ) → (x ≡ p → ⊥) →
    is_drawn (e ++ x ∷ d) p ≡ is_drawn (e ++ d) p
unfolding is_drawn
drawn-other [] d x p apart = ap (λ here. here || is_drawn d p) (ne_eqb x p apart)
drawn-other (y ∷ e) d x p apart =
    ap (λ rest. eqb y p || rest) (drawn-other e d x p apart)

-- a query that is answered with true stays so
query-more : (e d q : List ℕ) (x : ℕ) → all_in (is_drawn (e ++ d)) q ≡ true →
    all_in (is_drawn (e ++ x ∷ d)) q ≡ true
unfolding all_in
query-more e d [] x holds = refl
query-more e d (p ∷ q) x holds =
    let both = and_parts (is_drawn (e ++ d) p) (all_in (is_drawn (e ++ d)) q) holds in
    and_from (is_drawn (e ++ x ∷ d) p) (all_in (is_drawn (e ++ x ∷ d)) q)
    (drawn-more e d x p both.0) (query-more e d q x both.1)

-- a draw of a position that isn't in the query changes nothing
query-other : (e d q : List ℕ) (x : ℕ) → is_drawn q x ≡ false →
    all_in (is_drawn (e ++ x ∷ d)) q ≡ all_in (is_drawn (e ++ d)) q
unfolding all_in is_drawn
query-other e d [] x out = refl
query-other e d (p ∷ q) x out =
    let both = or_parts (eqb p x) (is_drawn q x) out in
    ap₂ (λ here rest. here && rest)
    (drawn-other e d x p (λ is. eqb-false p x both.0 (sym is))) (query-other e d q x both.1)

-- the less where it counts
rest-le : (here : Bool) (a c : ℕ) → a ≤ c → (if here then 0 else a) ≤ (if here then 0 else c)
rest-le true a c less = omega arith
rest-le false a c less = less

-- f counts lists of draws: a draw more never makes it less, and one of p changes nothing
pub record Grows (p : ℕ) (f : List ℕ → ℕ) : Type 0 where
  pub up : (e d : List ℕ) (x : ℕ) → f (e ++ d) ≤ f (e ++ x ∷ d)
  pub same : (e d : List ℕ) → f (e ++ p ∷ d) ≡ f (e ++ d)

-- a count that grows does so behind a first draw too
grows-next : (p x : ℕ) (f : List ℕ → ℕ) → Grows p f → Grows p (λ d. f (x ∷ d))
grows-next p x f grows = record {
  up = λ e d y. grows.up (x ∷ e) d y;
  same = λ e d. grows.same (x ∷ e) d;
}

-- a step of the induction, over numbers
avoid-step : (m power powers lists here others sum : ℕ) → power * lists ≤ powers * sum →
    sum ≡ here + others → m * here ≤ others →
    (power * m) * lists ≤ (powers * suc m) * others
avoid-step m power powers lists here others sum before split rest =
    let first : m * (power * lists) ≤ m * (powers * sum) = mul-le-mul_left m before in
    let second : powers * (m * here) ≤ powers * others = mul-le-mul_left powers rest in
    let both : m * (powers * sum) ≡ m * (powers * (here + others)) =
    ap (λ v. m * (powers * v)) split in
    omega (arith, first, second, both)

-- the share among the lists that avoid p is at least the share among all
pub avoid-more : (m p t : ℕ) (f : List ℕ → ℕ) → p < suc m → Grows p f →
    m ^ t * sum_draws (suc m) t f ≤ suc m ^ t * avoiding (suc m) p t f
unfolding sum_draws is_drawn
avoid-more m p zero f small grows = rw (pow-zero m, pow-zero (suc m)) (omega arith)
avoid-more m p (suc t) f small grows =
    let after : ℕ → ℕ = λ x. sum_draws (suc m) t (λ d. f (x ∷ d)) in
    let avoid : ℕ → ℕ = λ x. avoiding (suc m) p t (λ d. f (x ∷ d)) in
    let others : ℕ = sum_below (suc m) (λ x. if eqb x p then 0 else avoid x) in
    let each : sum_below (suc m) (λ x. m ^ t * after x)
    ≤ sum_below (suc m) (λ x. suc m ^ t * avoid x) =
    below-le (suc m) (λ x. m ^ t * after x) (λ x. suc m ^ t * avoid x)
    (λ x less. avoid-more m p t (λ d. f (x ∷ d)) small (grows-next p x f grows)) in
    let before : m ^ t * sum_below (suc m) after ≤ suc m ^ t * sum_below (suc m) avoid =
    omega (
      arith,
      each,
      below-scale (suc m) (m ^ t) after,
      below-scale (suc m) (suc m ^ t) avoid,
    ) in
    let least : (x : ℕ) → avoid p ≤ avoid x = λ x.
    draws-le (suc m) t (λ d. if is_drawn d p then 0 else f (p ∷ d))
    (λ d. if is_drawn d p then 0 else f (x ∷ d)) (λ d is.
    rest-le (is_drawn d p) (f (p ∷ d)) (f (x ∷ d))
    (omega (arith, grows.up [] d x, grows.same [] d))) in
    let rest : sum_below (suc m) (λ x. if eqb x p then 0 else avoid p) ≤ others =
    below-le (suc m) (λ x. if eqb x p then 0 else avoid p) (λ x. if eqb x p then 0 else avoid x)
    (λ x less. rest-le (eqb x p) (avoid p) (avoid x) (least x)) in
    let step = avoid-step m (m ^ t) (suc m ^ t) (sum_below (suc m) after) (avoid p) others
    (sum_below (suc m) avoid) before (below-split (suc m) p avoid small)
    (omega (arith, rest, below-others m p (avoid p) small)) in
    rw (pow-suc m t, pow-suc (suc m) t, avoiding-next (suc m) p t f) step

-- whether draws answer a query with true only grows with them, and a position that it doesn't name
-- changes nothing
pub query-grows : (q : List ℕ) (p : ℕ) → is_drawn q p ≡ false →
    Grows p (λ d. one_if (all_in (is_drawn d) q))
query-grows q p out = record {
  up = λ e d x.
      one-le (all_in (is_drawn (e ++ d)) q) (all_in (is_drawn (e ++ x ∷ d)) q) (query-more e d q x);
  same = λ e d. ap one_if (query-other e d q p out);
}
