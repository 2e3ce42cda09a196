-- A seat's step keeps the rule.
use Rattle.std.proofs.Common.{◌≡◌, ◌≢◌, ℕ, ◌≤◌, ◌⊎◌, true, false, List, length, set, sum_by, inl, inr, refl, sym, ap, ◌∙◌, subst}
use mathlib.Core.Option.{some, some-injective}
use lib.ListN.{get_elem?}
use Rattle.fastbloom.proofs.Common.{both_ways, cases_eq, false_from_ne_true, content, IsPart, set_of, Standing, Has, IsGained, IsSeated, passes_of, Sets, First, Pass, Spent}
use Rattle.atomic_table.proofs.Lists.{at_set, set_here, set_else}
use Rattle.fastbloom.proofs.SeatedLemmas.Rules.Seats.{seat-within, only-view}

-- what a seat's step does to its view, and to the words
pub record IsStep (s : Standing) (v w : Sets) (words : List ℕ) : Type 0 where
  pub count : length words ≡ length s.words
  pub live : w.role ≢ Spent → (v.role ≢ Spent) × (w.start ≡ v.start)
  pub settled : (v.role ≢ First) × (w.role ≢ First)
  pub grown : IsPart (content s.words) (content words)
  pub known : IsPart (set_of w.known) (content words)
  pub gained_known : IsPart (set_of w.gained) (set_of w.known)
  pub gained : (p : ℕ) → set_of w.gained p ≡ true
      → (set_of v.gained p ≡ true) ⊎ (content s.words p ≡ false)
  pub kept : IsPart (set_of v.gained) (set_of w.gained)
  pub gained_by : (p : ℕ) → set_of w.gained p ≡ true → w.role ≡ Pass
  pub one_each : w.role ≡ Pass → 1 ≤ w.passes
  pub accounted : (p : ℕ) → content words p ≡ true
      → (content s.words p ≡ true) ⊎ (set_of w.gained p ≡ true)

-- a rule, a seat with its view, and the step that it makes
module _ {count passes : ℕ} (s : Standing) (rule : IsSeated count passes s) (seat : ℕ) (v w : Sets)
    (words : List ℕ) (at : Has s seat v) (step : IsStep s v w words) where
  -- the table after the step
  abbrev after : Standing
  after = record { words = words; homes = s.homes; views = set s.views seat w }

  -- a view after the step is the seat's new one, or was there before
  by-view : (P : ℕ → Sets → Type 0) → P seat w → ((j : ℕ) (u : Sets) → Has s j u → P j u)
      → (j : ℕ) (u : Sets) → Has after j u → P j u
  by-view P mine others j u there =
      elim (at_set s.views seat j w u there) [
        | inl here ↦ subst (λ (z : ℕ × Sets). P z.0 z.1) (λ i. (sym here.0 i, here.1 i)) mine
        | inr else ↦ others j u else.1
      ]

  -- what the seat gained is no other's
  apart-from : (j : ℕ) (u : Sets) → Has s j u → j ≢ seat
      → (p : ℕ) → set_of w.gained p ≡ true → set_of u.gained p ≡ true → ⊥
  apart-from j u there other p mine theirs = elim (step.gained p mine) [
    | inl old ↦
        both_ways (set_of u.gained p)
        (rule.gained_once seat j v u at there (λ same. other (sym same)) p old) theirs
    | inr off ↦
        both_ways (content s.words p) off
        (rule.known_is_set j u there p (rule.gained_known j u there p theirs))
  ]

  -- what one of two seats gained isn't the other's
  apart : (i j : ℕ) (u z : Sets) → Has after i u → Has after j z → i ≢ j
      → (p : ℕ) → set_of u.gained p ≡ true → set_of z.gained p ≡ true → ⊥
  apart i j u z at_i at_j other p a b = elim (at_set s.views seat i w u at_i) [
    | inl here ↦ elim (at_set s.views seat j w z at_j) [
      | inl same ↦ other (here.0 ∙ sym same.0)
      | inr else ↦
          apart-from j z else.1 else.0 p
          (subst (λ (y : Sets). set_of y.gained p ≡ true) (sym here.1) a) b
    ]
    | inr there ↦ elim (at_set s.views seat j w z at_j) [
      | inl here ↦
          apart-from i u there.1 there.0 p
          (subst (λ (y : Sets). set_of y.gained p ≡ true) (sym here.1) b) a
      | inr else ↦
          both_ways (set_of z.gained p)
          (rule.gained_once i j u z there.1 else.1 other p a) b
    ]
  ]

  -- what was gained stays gained
  still : (p : ℕ) → IsGained s p → IsGained after p
  still p was = elim (cases_eq was.seat seat) [
    | inl here ↦
        let same : was.view ≡ v =
        some-injective was.view v (sym was.there ∙ ap (get_elem? s.views) here ∙ at) in
        record {
          seat = seat;
          view = w;
          there = set_here s.views seat w (seat-within s.views seat v at);
          gained =
              step.kept p (subst (λ (y : Sets). set_of y.gained p ≡ true) same was.gained);
        }
    | inr else ↦ record {
      seat = was.seat;
      view = was.view;
      there = set_else s.views seat was.seat w else ∙ was.there;
      gained = was.gained;
    }
  ]

  -- what is set was there at the start or was gained
  account : (p : ℕ) → content words p ≡ true → (content rule.start p ≡ true) ⊎ IsGained after p
  account p on = elim (step.accounted p on) [
    | inl was ↦ elim (rule.accounted p was) [
      | inl begun ↦ inl begun
      | inr gained ↦ inr (still p gained)
    ]
    | inr mine ↦ inr (record {
      seat = seat;
      view = w;
      there = set_here s.views seat w (seat-within s.views seat v at);
      gained = mine;
    })
  ]

  -- what the seat gained was clear at the start
  not-begun : (p : ℕ) → set_of w.gained p ≡ true → content rule.start p ≡ false
  not-begun p mine = elim (step.gained p mine) [
    | inl old ↦ rule.gained_new seat v at p old
    | inr off ↦ false_from_ne_true (content rule.start p)
        (λ begun. both_ways (content s.words p) off (rule.start_is_set p begun))
  ]

  -- no seat is the first
  none-first : (j : ℕ) (u : Sets) → Has after j u → u.role ≢ First
  none-first = by-view (λ j u. u.role ≢ First) step.settled.1
      (λ j u there first.
      let alone = rule.opening j u there first in
      step.settled.0 (ap (λ (y : Sets). y.role)
      (sym (only-view u v seat (subst (λ l. get_elem? l seat ≡ some v) alone.0 at))) ∙ first))

  -- the rule is kept, of as many passes as there are then
  pub kept-by-step : IsSeated count (sum_by passes_of (set s.views seat w)) after
  kept-by-step = record {
    count = step.count ∙ rule.count;
    start = rule.start;
    same_start = by-view (λ j u. u.role ≢ Spent → u.start ≡ rule.start)
        (λ live. (step.live live).1 ∙ rule.same_start seat v at (step.live live).0)
        rule.same_start;
    start_is_set = λ p begun. step.grown p (rule.start_is_set p begun);
    known_is_set = by-view (λ j u. IsPart (set_of u.known) (content words)) step.known
        (λ j u there p known. step.grown p (rule.known_is_set j u there p known));
    gained_known = by-view (λ j u. IsPart (set_of u.gained) (set_of u.known))
        step.gained_known rule.gained_known;
    gained_new = by-view
        (λ j u. (p : ℕ) → set_of u.gained p ≡ true → content rule.start p ≡ false)
        not-begun rule.gained_new;
    gained_once = λ i j u z at_i at_j other p a.
        false_from_ne_true (set_of z.gained p) (apart i j u z at_i at_j other p a);
    gained_by = by-view (λ j u. (p : ℕ) → set_of u.gained p ≡ true → u.role ≡ Pass)
        step.gained_by rule.gained_by;
    one_each = by-view (λ j u. u.role ≡ Pass → 1 ≤ u.passes) step.one_each rule.one_each;
    few = refl;
    accounted = account;
    opening = λ j u there first. absurd (none-first j u there first);
  }
