-- Passes that meet, and the words in the end.
use Rattle.std.proofs.Common.{◌≡◌, ℕ, ◌/◌, ◌+◌, ◌<◌, true, false, List, [], ◌∷◌, ◌++◌, length, take, get_or, zero, suc, inl, inr, sym, ap, ◌∙◌, subst, arith, le_refl}
use Rattle.fastbloom.proofs.Common.{both_ways, cases_lt, or_cases, content, IsPart, content-past, set_of, IsSeated, FilterSeat, note_of, informed, Views, Sets}
use Rattle.std.proofs.lemmas.List.{take_more, take_all}
use mathlib.Core.Option.{some, some-injective, some-ne-none}
use lib.ListN.{get_elem?}
use Rattle.atomic_table.specs.Table.{Final, Seen}
use Rattle.fastbloom.specs.Passes.{Sight, sight_of, known_of, either_of, Meets, Closes}
use Rattle.fastbloom.specs.Seats.{IsPassSeat}
use Rattle.fastbloom.proofs.SeatedLemmas.Sets.{in-left, in-right}
use Rattle.fastbloom.proofs.SeatedLemmas.Steps.Passes.{pass-not_spent}

-- a pass that looked at every word knows all that the filter began with
start-known : (old new : Sight) (words : ℕ) → Views words old new → length old.start ≡ words
    → IsPart (content old.start) (known_of new)
start-known old new words views whole p begun = elim (cases_lt (p / 64) words) [
  | inl within ↦ views.shown p within begun
  | inr past ↦
      absurd (both_ways (content old.start p) (content-past old.start p (omega arith)) begun)
]

-- equal views that hear of equal views are equal
pub informed-same : (a b c d : Sets) → a ≡ b → c ≡ d
    → informed a (note_of c) ≡ informed b (note_of d)
informed-same a b c d first second =
    ap (λ (v : Sets). informed v (note_of c)) first
    ∙ ap (λ (v : Sets). informed b (note_of v)) second

-- the seats of two passes: before they met, as they knew of one another, and after
module _ (a b a_heard b_heard a_new b_new : FilterSeat) (words : ℕ)
    (a_table : a_heard.table_id ≡ a.table_id) (b_table : b_heard.table_id ≡ b.table_id)
    (b_is : b_heard.me.0 ≡ informed b.me.0 (note_of a.me.0))
    (a_is : a_heard.me.0 ≡ informed a.me.0 (note_of b_heard.me.0))
    (a_views : Views words (sight_of a_heard) (sight_of a_new))
    (b_views : Views words (sight_of b_heard) (sight_of b_new))
    (a_whole : length a.me.0.start ≡ words) (b_whole : length b.me.0.start ≡ words) where
  a_start : a_heard.me.0.start ≡ a.me.0.start
  a_start = ap (λ (v : Sets). v.start) a_is

  b_start : b_heard.me.0.start ≡ b.me.0.start
  b_start = ap (λ (v : Sets). v.start) b_is

  in-b : IsPart (either_of (sight_of a) (sight_of b)) (set_of b_heard.me.0.known)
  in-b p is =
      subst (λ (v : Sets). set_of v.known p ≡ true) (sym b_is)
      (elim (or_cases (set_of a.me.0.known p) (set_of b.me.0.known p) is) [
        | inl first ↦ in-right b.me.0.known a.me.0.known p first
        | inr second ↦ in-left b.me.0.known a.me.0.known p second
      ])

  in-a : IsPart (either_of (sight_of a) (sight_of b)) (set_of a_heard.me.0.known)
  in-a p is =
      subst (λ (v : Sets). set_of v.known p ≡ true) (sym a_is)
      (in-right a.me.0.known b_heard.me.0.known p (in-b p is))

  pub meets : Meets (sight_of a) (sight_of b) (sight_of a_new) (sight_of b_new)
  meets = record {
    same_a = record {
      filter = a_views.same.filter ∙ a_table;
      start = a_views.same.start ∙ a_start;
    };
    same_b = record {
      filter = b_views.same.filter ∙ b_table;
      start = b_views.same.start ∙ b_start;
    };
    gained_a = a_views.gained ∙ ap (λ (v : Sets). v.gained) a_is;
    gained_b = b_views.gained ∙ ap (λ (v : Sets). v.gained) b_is;
    known_a = λ p is. a_views.kept p (in-a p is);
    known_b = λ p is. b_views.kept p (in-b p is);
    start_a = subst (λ l. IsPart (content l) (known_of (sight_of a_new))) a_start
        (start-known (sight_of a_heard) (sight_of a_new) words a_views
        (ap length a_start ∙ a_whole));
    start_b = subst (λ l. IsPart (content l) (known_of (sight_of b_new))) b_start
        (start-known (sight_of b_heard) (sight_of b_new) words b_views
        (ap length b_start ∙ b_whole));
  }

-- the last words of a table, as a pass knows them
closes : (count passes seat_id : ℕ) (seat : FilterSeat) (words : List ℕ)
    (slots : List (Unit {0})) → IsPassSeat seat
    → Final (Seen (IsSeated count passes) seat_id seat.me.0) words slots
    → Closes (sight_of seat) words
closes count passes seat_id seat words slots pass final =
    let rule = final.1.0 in
    let at = final.1.1 in
    let same = rule.same_start seat_id seat.me.0 at (pass-not_spent seat.me.0 pass.role) in
    record {
      start = λ p begun. subst (λ l. content l p ≡ true) final.2
          (rule.start_is_set p (subst (λ l. content l p ≡ true) same begun));
      known = λ p known. subst (λ l. content l p ≡ true) final.2
          (rule.known_is_set seat_id seat.me.0 at p known);
      gained = λ p gained. subst (λ l. content l p ≡ false) (sym same)
          (rule.gained_new seat_id seat.me.0 at p gained);
    }

-- the words of the table read so far, and one more
found-at : (l : List ℕ) (i a : ℕ) → get_elem? l i ≡ some a → (i < length l) × (get_or l i 0 ≡ a)
found-at [] i a at = absurd (some-ne-none a (sym at))
found-at (x ∷ xs) zero a at = (omega arith, some-injective x a at)
found-at (x ∷ xs) (suc i) a at =
    let later = found-at xs i a at in
    let below : i < length xs = later.0 in
    (omega arith, later.1)

pub take-next : (l m k : List ℕ) (i a : ℕ) → get_elem? l i ≡ some a → m ≡ take i l
    → k ≡ m ++ a ∷ [] → k ≡ take (i + 1) l
take-next l m k i a at is more =
    let there = found-at l i a at in
    more ∙ ap (λ z. z ++ a ∷ []) is ∙ ap (λ z. take i l ++ z ∷ []) (sym there.1)
    ∙ sym (take_more l i 0 there.0)

-- all words of the table, read one after the other
take-whole : (l k : List ℕ) (i n : ℕ) → k ≡ take i l → i ≡ n → n ≡ length l → k ≡ l
take-whole l k i n is at count =
    is ∙ ap (λ m. take m l) (at ∙ count) ∙ take_all (length l) l (le_refl (length l))

-- the last words, where they were taken out one by one
pub closes-taken : (count passes seat_id : ℕ) (seat : FilterSeat) (words taken : List ℕ)
    (slots : List (Unit {0})) (i n : ℕ) → IsPassSeat seat
    → Final (Seen (IsSeated count passes) seat_id seat.me.0) words slots → taken ≡ take i words
    → i ≡ n → n ≡ length words → Closes (sight_of seat) taken
closes-taken count passes seat_id seat words taken slots i n pass final is at all =
    subst (Closes (sight_of seat)) (sym (take-whole words taken i n is at all))
    (closes count passes seat_id seat words slots pass final)
