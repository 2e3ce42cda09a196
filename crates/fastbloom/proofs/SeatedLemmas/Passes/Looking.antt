-- What the step that loads a word does to what a pass knows.
use Rattle.std.proofs.Common.{◌≡◌, ℕ, ◌+◌, ◌/◌, Bool, false, inl, inr, refl, sym, ap, ◌∙◌, subst, arith}
use Rattle.fastbloom.proofs.Common.{both_ways, cases_lt, or_cases, or_left, or_right, false_from_ne_true, TableId, bit_is_on, content, set_of, ones_in, FilterSeat, sure_in, Shows, after_load, LooksAt, Views, sight_of, Sets}
use Rattle.fastbloom.proofs.SeatedLemmas.Sets.{in-left, in-right, in-either, on-from, on-to}
use Rattle.fastbloom.proofs.SeatedLemmas.Passes.Positions.{seen}

-- the step that loads the word of a position
module _ (table : TableId) (v : Sets) (q found : ℕ) (shown : Shows v (q / 64) found) where
  abbrev after : Sets
  after = after_load v (q / 64) found

  -- the pass can't be sure of what the load found clear
  off-after : bit_is_on found q ≡ false → sure_in after q ≡ false
  off-after off = false_from_ne_true (sure_in after q) (λ sure.
      elim (or_cases (content v.start q) (set_of after.known q) sure) [
        | inl begun ↦
            both_ways (bit_is_on found q) off
            (shown q refl (or_left (content v.start q) (set_of v.known q) begun))
        | inr known ↦ elim (in-either v.known (ones_in (q / 64) found) q known) [
          | inl old ↦
              both_ways (bit_is_on found q) off
              (shown q refl (or_right (content v.start q) (set_of v.known q) old))
          | inr new ↦ both_ways (bit_is_on found q) off (on-from (q / 64) found q new).1
        ]
      ])

  pub looks-one : (answer : Bool) → answer ≡ bit_is_on found q
      → LooksAt q (seen table v) (seen table after) answer
  looks-one answer is = record {
    same = record { filter = refl; start = refl };
    gained = refl;
    kept = λ p old. in-left v.known (ones_in (q / 64) found) p old;
    on = λ yes.
        in-right v.known (ones_in (q / 64) found) q (on-to (q / 64) found q refl (sym is ∙ yes));
    off = λ no. off-after (sym is ∙ no);
    grown = λ p now. elim (in-either v.known (ones_in (q / 64) found) p now) [
      | inl old ↦ inl old
      | inr new ↦ inr (on-from (q / 64) found p new).0
    ];
  }

-- from old to new a seat loaded the word of a position, as its step tells
pub by-load : (old new : FilterSeat) (q word found : ℕ) (on : Bool) → word ≡ q / 64
    → on ≡ bit_is_on found q → new.table_id ≡ old.table_id
    → (new.me.0 ≡ after_load old.me.0 word found) × Shows old.me.0 word found
    → LooksAt q (sight_of old) (sight_of new) on
by-load old new q word found on is_word is_on table told =
    subst (λ w. (new.me.0 ≡ after_load old.me.0 w found) × Shows old.me.0 w found
    → LooksAt q (sight_of old) (sight_of new) on) (sym is_word)
    (λ t. subst (λ (z : TableId × Sets). LooksAt q (sight_of old) (seen z.0 z.1) on)
    (λ i. (sym table i, sym t.0 i)) (looks-one old.table_id old.me.0 q found t.1 on is_on)) told

-- a seat looked at one word more, as its load tells
pub views-next : (old mid new : FilterSeat) (word found : ℕ) → new.table_id ≡ mid.table_id
    → (new.me.0 ≡ after_load mid.me.0 word found) × Shows mid.me.0 word found
    → Views word (sight_of old) (sight_of mid) → Views (word + 1) (sight_of old) (sight_of new)
views-next old mid new word found table told before =
    subst (λ (z : TableId × Sets). Views (word + 1) (sight_of old) (seen z.0 z.1))
    (λ i. (sym table i, sym told.0 i)) record {
      same = record { filter = before.same.filter; start = before.same.start };
      gained = before.gained;
      kept = λ p is. in-left mid.me.0.known (ones_in word found) p (before.kept p is);
      shown = λ p below begun. elim (cases_lt (p / 64) word) [
        | inl earlier ↦
            in-left mid.me.0.known (ones_in word found) p (before.shown p earlier begun)
        | inr late ↦
            let here : p / 64 ≡ word = omega arith in
            in-right mid.me.0.known (ones_in word found) p (on-to word found p here
            (told.1 p here (or_left (content mid.me.0.start p) (set_of mid.me.0.known p)
            (ap (λ l. content l p) before.same.start ∙ begun))))
      ];
    }
