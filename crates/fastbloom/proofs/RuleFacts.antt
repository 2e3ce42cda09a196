-- The rule of words that threads share: a case that holds, and the nearest that don't. The word
-- 1048577 has the bits 0, of the start, and 20, which a pass gained.
use Rattle.std.proofs.Common.{◌≡◌, ℕ, zero, suc, ◌/◌, ◌^◌, ◌≤◌, ◌⊎◌, true, false, ◌&&◌, eqb, List, [], ◌∷◌, length, slice_index, inl, inr, refl, sym, ap, ◌∙◌, subst, arith, lit<, lit≤}
use mathlib.Core.Option.{some, some-ne-none}
use lib.ListN.{get_elem?}
use Rattle.fastbloom.proofs.Common.{and_parts, both_ways, eqb-true, or_cases, bit_is_on, content, bit_is_on-mask, Has, IsGained, IsSeated, Standing, first_view, set_of, First, Note, Pass, Sets}
use Rattle.fastbloom.specs.declared.seated.rule.Role.{Role}
use Rattle.fastbloom.proofs.Cases.{one-from, single-from}
use Rattle.fastbloom.proofs.SeatedLemmas.Rules.Seats.{only-view}
use Rattle.fastbloom.proofs.SeatedLemmas.Words.{content-with_bits}

-- what a seat knows and gained, where it carries a word and stands for this many passes
abbrev seat_view : Role → ℕ → List ℕ → List ℕ → ℕ → Sets
seat_view role start known gained passes = record {
  role = role;
  start = start ∷ [];
  known = known;
  gained = gained;
  passes = passes;
}

-- the view of a seat that gained all that it knows
abbrev pub view : Role → List ℕ → Sets
view role known = seat_view role 1 known known 1

-- a table of one word, with the views of its seats
abbrev pub at : ℕ → List Sets → Standing
at word views = record { words = word ∷ []; homes = []; views = views }

-- a table with one pass, which gained 20
abbrev pub alone : Standing
alone = at 1048577 (view Pass (20 ∷ []) ∷ [])

-- what holds of the only seat's view holds of the view of every seat
by-one : (w : Sets) (P : Sets → Type 0) → P w → (word seat : ℕ) (v : Sets)
    → Has (at word (w ∷ [])) seat v → P v
by-one w P is word seat v there = subst P (only-view w v seat there) is

-- the only seat is the first
seat-one : (w v : Sets) (seat : ℕ) → get_elem? (w ∷ []) seat ≡ some v → seat ≡ 0
seat-one w v zero there = refl
seat-one w v (suc seat) there = absurd (some-ne-none v (sym there))

-- the table with one pass keeps the rule of one word and one pass
seated : IsSeated 1 1 alone
unfolding content set_of
seated = record {
  count = refl;
  start = 1 ∷ [];
  same_start = λ seat v there live.
      by-one (view Pass (20 ∷ [])) (λ w. w.start ≡ 1 ∷ []) refl 1048577 seat v there;
  start_is_set = λ p begun. ap (content (1048577 ∷ [])) (single-from 0 p (lit< tt) begun);
  known_is_set = by-one (view Pass (20 ∷ []))
      (λ w. (p : ℕ) → set_of w.known p ≡ true → content (1048577 ∷ []) p ≡ true)
      (λ p is. ap (content (1048577 ∷ [])) (one-from 20 p is)) 1048577;
  gained_known = by-one (view Pass (20 ∷ []))
      (λ w. (p : ℕ) → set_of w.gained p ≡ true → set_of w.known p ≡ true) (λ p is. is) 1048577;
  gained_new = by-one (view Pass (20 ∷ []))
      (λ w. (p : ℕ) → set_of w.gained p ≡ true → content (1 ∷ []) p ≡ false)
      (λ p is. ap (content (1 ∷ [])) (one-from 20 p is)) 1048577;
  gained_once = λ seat other v w there here apart.
      absurd (apart (seat-one (view Pass (20 ∷ [])) v seat there
      ∙ sym (seat-one (view Pass (20 ∷ [])) w other here)));
  gained_by = by-one (view Pass (20 ∷ []))
      (λ w. (p : ℕ) → set_of w.gained p ≡ true → w.role ≡ Pass) (λ p is. refl) 1048577;
  one_each = by-one (view Pass (20 ∷ [])) (λ w. w.role ≡ Pass → 1 ≤ w.passes)
      (λ is. lit≤ tt) 1048577;
  few = refl;
  accounted = account;
  opening = λ seat v there first.
      let role = by-one (view Pass (20 ∷ [])) (λ w. w.role ≡ Pass) refl 1048577 seat v there in
      let wrong : Pass ≡ First = sym role ∙ first in cc;
}
  where
    account : (p : ℕ) → content (1048577 ∷ []) p ≡ true
        → (content (1 ∷ []) p ≡ true) ⊎ IsGained alone p
    account p on =
        let either = sym (content-with_bits (1 ∷ []) 0 (2 ^ 20) p (lit< tt)) ∙ on in
        elim (or_cases (content (1 ∷ []) p) (eqb (p / 64) 0 && bit_is_on (2 ^ 20) p) either) [
          | inl begun ↦ inl begun
          | inr turned ↦
              let parts = and_parts (eqb (p / 64) 0) (bit_is_on (2 ^ 20) p) turned in
              let word : p / 64 ≡ 0 = eqb-true (p / 64) 0 parts.0 in
              let here : p ≡ 20 = eqb-true p 20 (sym (bit_is_on-mask p 20 word) ∙ parts.1) in
              inr (record {
                seat = 0;
                view = view Pass (20 ∷ []);
                there = refl;
                gained = ap (set_of (20 ∷ [])) here;
              })
        ]

-- what is known is set, and so is what the filter began with, which every seat carries; and what is
-- set was there at the start or was gained, as bit 1 of 1048579 wasn't
words-not : (IsSeated 1 1 (at 1 (view Pass (20 ∷ []) ∷ [])) → ⊥)
    × (IsSeated 1 1 (at 0 (view Pass [] ∷ [])) → ⊥)
    × (IsSeated 1 1 (at 1 (view Pass [] ∷ seat_view Note 0 [] [] 0 ∷ [])) → ⊥)
    × (IsSeated 1 1 (at 1048579 (view Pass (20 ∷ []) ∷ [])) → ⊥)
    × (IsSeated 2 1 alone → ⊥)
unfolding content set_of
words-not = (
  λ rule. both_ways (content (1 ∷ []) 20) refl
      (rule.known_is_set 0 (view Pass (20 ∷ [])) refl 20 refl),
  λ rule. (let same = rule.same_start 0 (view Pass []) refl (λ bad. cc) in
      both_ways (content (0 ∷ []) 0) refl
      (rule.start_is_set 0 (ap (λ l. content l 0) (sym same) ∙ refl))),
  λ rule. (let first = rule.same_start 0 (view Pass []) refl (λ bad. cc) in
      let second = rule.same_start 1 (seat_view Note 0 [] [] 0) refl (λ bad. cc) in
      omega (arith, ap (λ words. slice_index words 0) (first ∙ sym second))),
  λ rule. elim (rule.accounted 1 refl) [
    | inl begun ↦
        let same = rule.same_start 0 (view Pass (20 ∷ [])) refl (λ bad. cc) in
        both_ways (content (1 ∷ []) 1) refl (ap (λ l. content l 1) same ∙ begun)
    | inr was ↦
        let same = only-view (view Pass (20 ∷ [])) was.view was.seat was.there in
        both_ways (set_of (20 ∷ []) 1) refl
        (ap (λ (v : Sets). set_of v.gained 1) same ∙ was.gained)
  ],
  λ rule. omega (arith, rule.count),
)

-- no position is gained twice, nor of those that the filter began with, nor by a note, nor one that
-- isn't known
gained-not : (IsSeated 1 2 (at 1048577 (view Pass (20 ∷ []) ∷ view Pass (20 ∷ []) ∷ [])) → ⊥)
    × (IsSeated 1 1 (at 1 (view Pass (0 ∷ []) ∷ [])) → ⊥)
    × (IsSeated 1 1 (at 1048577 (view Note (20 ∷ []) ∷ [])) → ⊥)
    × (IsSeated 1 1 (at 1048577 (seat_view Pass 1 [] (20 ∷ []) 1 ∷ [])) → ⊥)
unfolding content set_of
gained-not = (
  λ rule. both_ways (set_of (20 ∷ []) 20)
      (rule.gained_once 0 1 (view Pass (20 ∷ [])) (view Pass (20 ∷ [])) refl refl
      (λ same. omega (arith, same)) 20 refl) refl,
  λ rule. (let same = rule.same_start 0 (view Pass (0 ∷ [])) refl (λ bad. cc) in
      both_ways (content (1 ∷ []) 0)
      (ap (λ l. content l 0) same ∙ rule.gained_new 0 (view Pass (0 ∷ [])) refl 0 refl) refl),
  λ rule. (let wrong : Note ≡ Pass = rule.gained_by 0 (view Note (20 ∷ [])) refl 20 refl in cc),
  λ rule. both_ways (set_of [] 20) refl
      (rule.gained_known 0 (seat_view Pass 1 [] (20 ∷ []) 1) refl 20 refl),
)

-- the seats stand for as many passes as were asked for, each for itself at least; and the first
-- seat is alone while it puts the words in, which are those that it carries
seats-not : (IsSeated 1 1 (at 1048577 (view Pass (20 ∷ []) ∷ view Pass [] ∷ [])) → ⊥)
    × (IsSeated 1 2 alone → ⊥)
    × (IsSeated 1 0 (at 1 (seat_view Pass 1 [] [] 0 ∷ [])) → ⊥)
    × (IsSeated 1 1 (at 1 (view First [] ∷ seat_view Note 1 [] [] 0 ∷ [])) → ⊥)
    × (IsSeated 1 1 (at 0 (view First [] ∷ [])) → ⊥)
seats-not = (
  λ rule. omega (arith, rule.few),
  λ rule. omega (arith, rule.few),
  λ rule. omega (arith, rule.one_each 0 (seat_view Pass 1 [] [] 0) refl refl),
  λ rule. omega (arith, ap (λ views. length views) (rule.opening 0 (view First []) refl refl).0),
  λ rule. omega (
    arith,
    ap (λ words. slice_index words 0)
        (rule.opening 0 (view First []) refl refl).1,
  ),
)

-- the first seat begins with zero words, knows and gained nothing, and stands for all passes
first : first_view 1 3 ≡ seat_view First 0 [] [] 3
first = refl
