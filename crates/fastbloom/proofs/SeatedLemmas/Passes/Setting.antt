-- What the step that sets a position does to what a pass knows and gained.
use Rattle.std.proofs.Common.{◌≡◌, ℕ, ◌/◌, ◌%◌, ◌^◌, Bool, true, false, ◌||◌, eqb, inl, inr, refl, sym, ap, ◌∙◌, subst}
use Rattle.fastbloom.proofs.Common.{both_ways, or_right, eqb-true, eq-eqb, false_from_ne_true, TableId, bit_is_on, content, IsPart, bit_is_on-mask, set_of, ones_in, fresh_in, FilterSeat, sure_in, Shows, after_or, sight_of, InsertsAs, Sets}
use Rattle.fastbloom.proofs.SeatedLemmas.Sets.{in-left, in-right, in-either, set_of-append, fresh-from, fresh-to}
use Rattle.fastbloom.proofs.SeatedLemmas.Passes.Positions.{seen, mask_of, mask-alone}

-- the step that sets a position
module _ (table : TableId) (v : Sets) (q found : ℕ) (shown : Shows v (q / 64) found)
    (part : IsPart (set_of v.gained) (set_of v.known)) where
  abbrev turned : Sets
  turned = after_or v (q / 64) (mask_of q found) found

  -- what was found clear could not be known
  unsure : bit_is_on found q ≡ false → sure_in v q ≡ false
  unsure off = false_from_ne_true (sure_in v q)
      (λ sure. both_ways (bit_is_on found q) off (shown q refl sure))

  -- what the step gains
  gain-from : (p : ℕ) → set_of (fresh_in (q / 64) (mask_of q found) found) p ≡ true
      → (p ≡ q) × (bit_is_on found q ≡ false)
  gain-from p is =
      let there = fresh-from (q / 64) (mask_of q found) found p is in
      let same : p ≡ q =
      eqb-true p q (sym (bit_is_on-mask p q there.0) ∙ there.1) in
      (same, sym (ap (bit_is_on found) same) ∙ there.2)

  gain-to : bit_is_on found q ≡ false
      → set_of (fresh_in (q / 64) (mask_of q found) found) q ≡ true
  gain-to off =
      fresh-to (q / 64) (mask_of q found) found q refl
      (bit_is_on-mask q q refl ∙ eq-eqb q q refl) off

  pub inserts-one : (answer : Bool) → answer ≡ bit_is_on found q
      → InsertsAs (λ p. eqb p q) (seen table v) (seen table turned) answer
  inserts-one answer is = record {
    same = record { filter = refl; start = refl };
    known = λ p.
        set_of-append v.known (ones_in (q / 64) (mask_of q found)) p
        ∙ ap (λ b. set_of v.known p || b) (mask-alone q found p);
    kept = λ p old. in-left v.gained (fresh_in (q / 64) (mask_of q found) found) p old;
    gained = λ p now. elim (in-either v.gained (fresh_in (q / 64) (mask_of q found) found) p now) [
      | inl old ↦ inl old
      | inr fresh ↦
          let there = gain-from p fresh in
          inr (eq-eqb p q there.0, ap (sure_in v) there.0 ∙ unsure there.1)
    ];
    grew = λ no.
        let off : bit_is_on found q ≡ false = sym is ∙ no in
        record {
          position = q;
          gained = in-right v.gained (fresh_in (q / 64) (mask_of q found) found) q (gain-to off);
          before = false_from_ne_true (set_of v.gained q)
              (λ old. both_ways (sure_in v q) (unsure off)
              (or_right (content v.start q) (set_of v.known q) (part q old)));
        };
    stayed = λ yes p now.
        elim (in-either v.gained (fresh_in (q / 64) (mask_of q found) found) p now) [
          | inl old ↦ old
          | inr fresh ↦ absurd (both_ways (bit_is_on found q) (gain-from p fresh).1 (sym is ∙ yes))
        ];
  }

-- from old to new a seat set a position, as its step tells
pub by-set : (old new : FilterSeat) (q word mask found : ℕ) (on : Bool) → word ≡ q / 64
    → mask ≡ 2 ^ (q % 64) → on ≡ bit_is_on found q → new.table_id ≡ old.table_id
    → (new.me.0 ≡ after_or old.me.0 word mask found) × Shows old.me.0 word found
    × IsPart (set_of old.me.0.gained) (set_of old.me.0.known)
    → InsertsAs (λ p. eqb p q) (sight_of old) (sight_of new) on
by-set old new q word mask found on is_word is_mask is_on table told =
    subst (λ (z : ℕ × ℕ). (new.me.0 ≡ after_or old.me.0 z.0 z.1 found) × Shows old.me.0 z.0 found
    × IsPart (set_of old.me.0.gained) (set_of old.me.0.known)
    → InsertsAs (λ p. eqb p q) (sight_of old) (sight_of new) on)
    (λ i. (sym is_word i, sym is_mask i))
    (λ t. subst (λ (z : TableId × Sets). InsertsAs (λ p. eqb p q) (sight_of old) (seen z.0 z.1) on)
    (λ i. (sym table i, sym t.0 i))
    (inserts-one old.table_id old.me.0 q found t.1 t.2 on is_on)) told
