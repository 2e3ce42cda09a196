-- An `|` by a pass keeps the rule.
use Rattle.std.proofs.Common.{◌≡◌, ℕ, ◌/◌, ◌<◌, ◌⊎◌, true, ◌||◌, ◌&&◌, eqb, length, get_or, bit_or, length-set, inl, inr, refl, sym, ◌∙◌, arith}
use mathlib.Core.Option.{none}
use Rattle.fastbloom.proofs.Common.{cases_Bool, or_cases, or_left, or_right, and_parts, and_from, eqb-true, eq-eqb, step, keeps, Allows, bit_is_on, content, IsPart, set_of, ones_in, fresh_in, Standing, Has, IsSeated, Sets, Pass}
use Rattle.fastbloom.specs.Plays.{Sat, after_or, bits_set, with_bits}
use Rattle.fastbloom.proofs.SeatedLemmas.Sets.{in-left, in-right, in-either, on-from, on-to, fresh-from, fresh-to}
use Rattle.fastbloom.proofs.SeatedLemmas.Words.{content-word, content-with_bits}
use Rattle.fastbloom.proofs.SeatedLemmas.Rules.Seats.{as-many}
use Rattle.fastbloom.proofs.SeatedLemmas.Rules.Stepping.{IsStep, kept-by-step}
use Rattle.fastbloom.proofs.SeatedLemmas.Steps.Passes.{pass-not_first, pass-not_spent, same-passes, shows}

-- what an `|` by a pass does
module _ {count passes : ℕ} (s : Standing) (rule : IsSeated count passes s) (seat : ℕ) (v : Sets)
    (at : Has s seat v) (pass : v.role ≡ Pass) (i mask : ℕ) (room : i < length s.words) where
  abbrev found : ℕ
  found = get_or s.words i 0

  abbrev new : Sets
  new = after_or v i mask found

  -- the words after it
  on-after : (p : ℕ) → content (with_bits s.words i mask) p
      ≡ (content s.words p || (eqb (p / 64) i && bit_is_on mask p))
  on-after p = content-with_bits s.words i mask p room

  grows : IsPart (content s.words) (content (with_bits s.words i mask))
  grows p on = on-after p ∙ or_left (content s.words p) (eqb (p / 64) i && bit_is_on mask p) on

  of-mask : (p : ℕ) → set_of (ones_in i mask) p ≡ true → content (with_bits s.words i mask) p ≡ true
  of-mask p is =
      let there = on-from i mask p is in
      on-after p ∙ or_right (content s.words p) (eqb (p / 64) i && bit_is_on mask p)
      (and_from (eqb (p / 64) i) (bit_is_on mask p) (eq-eqb (p / 64) i there.0) there.1)

  -- what is set after it was set or is gained
  account-or : (p : ℕ) → content (with_bits s.words i mask) p ≡ true
      → (content s.words p ≡ true) ⊎ (set_of new.gained p ≡ true)
  account-or p on = elim (cases_Bool (content s.words p)) [
    | inl was ↦ inl was
    | inr off ↦
        elim (or_cases (content s.words p) (eqb (p / 64) i && bit_is_on mask p)
        (sym (on-after p) ∙ on)) [
          | inl was ↦ inl was
          | inr turned ↦
              let parts = and_parts (eqb (p / 64) i) (bit_is_on mask p) turned in
              let here : p / 64 ≡ i = eqb-true (p / 64) i parts.0 in
              inr (in-right v.gained (fresh_in i mask found) p
              (fresh-to i mask found p here parts.1 (sym (content-word s.words i p here) ∙ off)))
        ]
  ]

  or-step : IsStep s v new (with_bits s.words i mask)
  or-step = record {
    count = length-set s.words i (bit_or found mask);
    live = λ is. (is, refl);
    settled = (pass-not_first v pass, pass-not_first v pass);
    grown = grows;
    known = λ p known. elim (in-either v.known (ones_in i mask) p known) [
      | inl old ↦ grows p (rule.known_is_set seat v at p old)
      | inr is ↦ of-mask p is
    ];
    gained_known = λ p is. elim (in-either v.gained (fresh_in i mask found) p is) [
      | inl old ↦ in-left v.known (ones_in i mask) p (rule.gained_known seat v at p old)
      | inr fresh ↦
          let there = fresh-from i mask found p fresh in
          in-right v.known (ones_in i mask) p (on-to i mask p there.0 there.1)
    ];
    gained = λ p is. elim (in-either v.gained (fresh_in i mask found) p is) [
      | inl old ↦ inl old
      | inr fresh ↦
          let there = fresh-from i mask found p fresh in
          inr (content-word s.words i p there.0 ∙ there.2)
    ];
    kept = λ p is. in-left v.gained (fresh_in i mask found) p is;
    gained_by = λ p is. pass;
    one_each = λ is. rule.one_each seat v at pass;
    accounted = account-or;
  }

-- an `|` by a pass
pub sets_bits : (count passes slots seat : ℕ) (me : Sat) (i mask : ℕ) → i < count → me.0.role ≡ Pass
    → Allows (IsSeated count passes) slots seat me i (λ n. bit_or n mask)
    (bits_set (step slots i mask 0 none) me)
sets_bits count passes slots seat me i mask within pass s rule sized at fits =
    let v : Sets = me.0 in
    let room : i < length s.words = omega (arith, rule.count) in
    let w : Sets = after_or v i mask (get_or s.words i 0) in (
      w,
      keeps,
      tt,
      as-many (same-passes s rule seat v w at refl)
          (kept-by-step s rule seat v w (with_bits s.words i mask) at
          (or-step s rule seat v at pass i mask room)),
      (refl, shows s rule seat v at (pass-not_spent v pass) i, rule.gained_known seat v at),
    )
