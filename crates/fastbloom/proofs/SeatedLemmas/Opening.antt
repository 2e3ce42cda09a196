-- The first seat puts the words in alone, and then becomes a pass.
use Rattle.std.proofs.Common.{◌≡◌, ℕ, zero, suc, ◌≤◌, true, List, [], ◌∷◌, length, set, get_or, bit_or, replicate, length-set, sum_by, inl, refl, sym, ap, ◌∙◌, subst, arith}
use mathlib.Core.Option.{none, some, some-ne-none}
use lib.ListN.{get_elem?}
use Rattle.std.proofs.lemmas.List.{length-replicate, set-get_or}
use Rattle.atomic_table.specs.Table.{step, keeps, Allows, opening as opened}
use Rattle.fastbloom.proofs.Common.{content, set_of, Standing, Has, IsSeated, passes_of, first_view, Sets, Pass}
use Rattle.fastbloom.specs.Plays.{Sat, with_bits, put_in, settled, IsFirst, IsFresh}
use Rattle.fastbloom.proofs.SeatedLemmas.Sets.{in-none}
use Rattle.fastbloom.proofs.SeatedLemmas.Rules.Seats.{only-view}

-- a table with one seat, which knows nothing, at the words that it carries
module _ (s : Standing) (w : Sets) (one : s.views ≡ w ∷ []) (same : s.words ≡ w.start)
    (known : w.known ≡ []) (gained : w.gained ≡ []) (some_passes : 1 ≤ w.passes) where
  is-it : (j : ℕ) (u : Sets) → Has s j u → w ≡ u
  is-it j u there = only-view w u j (subst (λ l. get_elem? l j ≡ some u) one there)

  knows-none : (j : ℕ) (u : Sets) → Has s j u → (p : ℕ) → set_of u.known p ≡ true → ⊥
  knows-none j u there p is =
      in-none p (subst (λ l. set_of l p ≡ true)
      (ap (λ (y : Sets). y.known) (sym (is-it j u there)) ∙ known) is)

  gains-none : (j : ℕ) (u : Sets) → Has s j u → (p : ℕ) → set_of u.gained p ≡ true → ⊥
  gains-none j u there p is =
      in-none p (subst (λ l. set_of l p ≡ true)
      (ap (λ (y : Sets). y.gained) (sym (is-it j u there)) ∙ gained) is)

  pub alone : IsSeated (length s.words) w.passes s
  alone = record {
    count = refl;
    start = w.start;
    same_start = λ j u there live. ap (λ (y : Sets). y.start) (sym (is-it j u there));
    start_is_set = λ p begun. subst (λ l. content l p ≡ true) (sym same) begun;
    known_is_set = λ j u there p is. absurd (knows-none j u there p is);
    gained_known = λ j u there p is. absurd (gains-none j u there p is);
    gained_new = λ j u there p is. absurd (gains-none j u there p is);
    gained_once = λ i j u z at_i at_j other p is. absurd (gains-none i u at_i p is);
    gained_by = λ j u there p is. absurd (gains-none j u there p is);
    one_each = λ j u there role.
        subst (λ (y : Sets). 1 ≤ y.passes) (is-it j u there) some_passes;
    few = let there = ap (sum_by passes_of) one in omega (arith, there);
    accounted = λ p on. inl (subst (λ l. content l p ≡ true) same on);
    opening = λ j u there role. (
      one ∙ ap (λ (y : Sets). y ∷ []) (is-it j u there),
      same ∙ ap (λ (y : Sets). y.start) (is-it j u there),
    );
  }

-- the rule of one number of words and passes is that of equal numbers
pub of-size : {a b c d : ℕ} {s : Standing} → a ≡ b → c ≡ d → IsSeated a c s → IsSeated b d s
of-size {a} {b} {c} {d} {s} words passes rule =
    subst (λ n. IsSeated n d s) words (subst (λ n. IsSeated a n s) passes rule)

-- a step of the only seat leaves it the only one
only-set : (l : List Sets) (seat : ℕ) (v w : Sets) → l ≡ v ∷ [] → get_elem? l seat ≡ some v
    → set l seat w ≡ w ∷ []
only-set l seat v w one at =
    ap (λ k. set k seat w) one ∙ at-first seat (subst (λ k. get_elem? k seat ≡ some v) one at)
  where
    at-first : (j : ℕ) → get_elem? (v ∷ []) j ≡ some v → set (v ∷ []) j w ≡ w ∷ []
    at-first zero there = refl
    at-first (suc j) there = absurd (some-ne-none v (sym there))

-- the number of passes is the one that the only seat stands for
only-passes : {count passes : ℕ} (s : Standing) → IsSeated count passes s → (v : Sets)
    → s.views ≡ v ∷ [] → v.passes ≡ passes
only-passes s rule v one = let there = ap (sum_by passes_of) one in omega (arith, there, rule.few)

-- an `|` by the first seat
pub puts_in : (count passes slots seat : ℕ) (me : Sat) (i mask : ℕ) → IsFirst me.0
    → Allows (IsSeated count passes) slots seat me i (λ n. bit_or n mask)
    (put_in (step slots i mask 0 none) me)
puts_in count passes slots seat me i mask first s rule sized at fits =
    let v : Sets = me.0 in
    let before = rule.opening seat v at first.role in
    let w : Sets = record v { start = with_bits v.start i mask } in
    let s_after : Standing = record {
      words = with_bits s.words i mask;
      homes = s.homes;
      views = set s.views seat w;
    } in (
      w,
      keeps,
      tt,
      of-size (length-set s.words i (bit_or (get_or s.words i 0) mask) ∙ rule.count)
          (only-passes s rule v before.0)
          (alone s_after w (only-set s.views seat v w before.0 at)
          (ap (λ l. with_bits l i mask) before.1) first.known first.gained first.some),
      refl,
    )

-- the load with which the first seat becomes a pass
pub settles : (count passes slots seat : ℕ) (me : Sat) (i : ℕ) → IsFirst me.0
    → Allows (IsSeated count passes) slots seat me i (λ n. n) (settled (step slots i 0 0 none) me)
settles count passes slots seat me i first s rule sized at fits =
    let v : Sets = me.0 in
    let before = rule.opening seat v at first.role in
    let w : Sets = record v { role = Pass } in
    let s_after : Standing = record {
      words = set s.words i (get_or s.words i 0);
      homes = s.homes;
      views = set s.views seat w;
    } in (
      w,
      keeps,
      tt,
      of-size (length-set s.words i (get_or s.words i 0) ∙ rule.count)
          (only-passes s rule v before.0)
          (alone s_after w (only-set s.views seat v w before.0 at)
          (set-get_or s.words i 0 ∙ before.1) first.known first.gained first.some),
      refl,
    )

-- the seat that became a pass knows and gained nothing
pub settles-fresh : (v w : Sets) → IsFirst v → w ≡ record v { role = Pass } → IsFresh w
settles-fresh v w was is = record {
  role = ap (λ (u : Sets). u.role) is;
  known = ap (λ (u : Sets). u.known) is ∙ was.known;
  gained = ap (λ (u : Sets). u.gained) is ∙ was.gained;
}

-- a table of zero words with its first seat
pub opens : (count passes : ℕ) → 1 ≤ passes
    → IsSeated count passes (opened (replicate count 0) [] (first_view count passes))
opens count passes some_passes =
    of-size (length-replicate count 0) refl
    (alone (opened (replicate count 0) [] (first_view count passes)) (first_view count passes)
    refl refl refl refl some_passes)
