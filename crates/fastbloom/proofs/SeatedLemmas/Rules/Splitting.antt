-- A seat that is split off keeps the rule.
use Rattle.std.proofs.Common.{◌≡◌, ◌≢◌, ℕ, ◌+◌, ◌≤◌, true, false, [], ◌∷◌, ◌++◌, inl, inr, sym, ap, ◌∙◌, subst}
use mathlib.Core.Option.{some}
use lib.ListN.{get_elem?}
use Rattle.fastbloom.proofs.Common.{false_from_ne_true, content, IsPart, set_of, Standing, Has, IsSeated, passes_of, Sets, First, Pass, Spent}
use Rattle.std.proofs.lemmas.List.Sums.{sum_by_push}
use Rattle.atomic_table.proofs.Lists.{at_longer, at_snoc}
use Rattle.fastbloom.proofs.SeatedLemmas.Sets.{in-none}
use Rattle.fastbloom.proofs.SeatedLemmas.Rules.Seats.{only-view}

-- a new seat may know what another does, if it has gained nothing
module _ {count passes : ℕ} (s : Standing) (rule : IsSeated count passes s) (seat : ℕ) (v u : Sets)
    (at : Has s seat v) (settled : (v.role ≢ First) × (u.role ≢ First))
    (live : (v.role ≢ Spent) × (u.start ≡ v.start))
    (known : IsPart (set_of u.known) (set_of v.known)) (none_gained : u.gained ≡ [])
    (one_each : u.role ≡ Pass → 1 ≤ u.passes) where
  -- the table with the new seat
  abbrev longer : Standing
  longer = record { words = s.words; homes = s.homes; views = s.views ++ u ∷ [] }

  -- the new seat has gained nothing
  nothing : (p : ℕ) → set_of u.gained p ≡ true → ⊥
  nothing p is = in-none p (subst (λ l. set_of l p ≡ true) none_gained is)

  -- a view is the new one, or was there before
  by-each : (P : Sets → Type 0) → P u → ((j : ℕ) (z : Sets) → Has s j z → P z)
      → (j : ℕ) (z : Sets) → Has longer j z → P z
  by-each P mine others j z there = elim (at_snoc s.views u z j there) [
    | inl was ↦ others j z was
    | inr new ↦ subst P new mine
  ]

  -- no two seats gained the same
  once : (i j : ℕ) (x z : Sets) → Has longer i x → Has longer j z → i ≢ j
      → (p : ℕ) → set_of x.gained p ≡ true → set_of z.gained p ≡ false
  once i j x z at_i at_j other p a = elim (at_snoc s.views u x i at_i) [
    | inl first ↦ elim (at_snoc s.views u z j at_j) [
      | inl second ↦ rule.gained_once i j x z first second other p a
      | inr new ↦ false_from_ne_true (set_of z.gained p)
          (λ b. nothing p (subst (λ (y : Sets). set_of y.gained p ≡ true) (sym new) b))
    ]
    | inr new ↦ absurd (nothing p (subst (λ (y : Sets). set_of y.gained p ≡ true) (sym new) a))
  ]

  -- no seat is the first
  none-opening : (j : ℕ) (z : Sets) → Has longer j z → z.role ≢ First
  none-opening = by-each (λ z. z.role ≢ First) settled.1
      (λ j z there first.
      let alone = rule.opening j z there first in
      settled.0 (ap (λ (y : Sets). y.role)
      (sym (only-view z v seat (subst (λ l. get_elem? l seat ≡ some v) alone.0 at))) ∙ first))

  -- what was gained stays gained
  pub kept-by-split : IsSeated count (passes + u.passes) longer
  kept-by-split = record {
    count = rule.count;
    start = rule.start;
    same_start = by-each (λ z. z.role ≢ Spent → z.start ≡ rule.start)
        (λ is. live.1 ∙ rule.same_start seat v at live.0) rule.same_start;
    start_is_set = rule.start_is_set;
    known_is_set = by-each (λ z. IsPart (set_of z.known) (content s.words))
        (λ p is. rule.known_is_set seat v at p (known p is)) rule.known_is_set;
    gained_known = by-each (λ z. IsPart (set_of z.gained) (set_of z.known))
        (λ p is. absurd (nothing p is)) rule.gained_known;
    gained_new = by-each
        (λ z. (p : ℕ) → set_of z.gained p ≡ true → content rule.start p ≡ false)
        (λ p is. absurd (nothing p is)) rule.gained_new;
    gained_once = once;
    gained_by = by-each (λ z. (p : ℕ) → set_of z.gained p ≡ true → z.role ≡ Pass)
        (λ p is. absurd (nothing p is)) rule.gained_by;
    one_each = by-each (λ z. z.role ≡ Pass → 1 ≤ z.passes) one_each rule.one_each;
    few = sum_by_push passes_of s.views u ∙ ap (λ n. n + u.passes) rule.few;
    accounted = λ p on. elim (rule.accounted p on) [
      | inl begun ↦ inl begun
      | inr was ↦ inr (record {
        seat = was.seat;
        view = was.view;
        there = at_longer s.views (u ∷ []) was.seat was.view was.there;
        gained = was.gained;
      })
    ];
    opening = λ j z there first. absurd (none-opening j z there first);
  }
