-- The splits and joins of the seats of passes keep the rule.
use Rattle.std.proofs.Common.{◌≡◌, ◌≢◌, ℕ, ◌<◌, ◌≤◌, true, List, [], ◌∷◌, ◌++◌, set, inl, inr, refl, sym, ap, ◌∙◌, subst, arith, le_refl}
use Rattle.atomic_table.specs.Table.{Splits, Joins}
use Rattle.atomic_table.proofs.Lists.{set_again, set_else, set_here}
use Rattle.fastbloom.proofs.Common.{content, IsPart, set_of, Standing, Has, IsSeated, Sets, First, Pass, Note, Spent}
use Rattle.fastbloom.specs.Plays.{IsFresh, less_one, one_of, note_of, informed, spent_view, Sat}
use Rattle.fastbloom.proofs.SeatedLemmas.Sets.{in-none, in-left, in-either}
use Rattle.fastbloom.proofs.SeatedLemmas.Rules.Seats.{seat-within, passes-set, as-many}
use Rattle.fastbloom.proofs.SeatedLemmas.Rules.Stepping.{IsStep, kept-by-step}
use Rattle.fastbloom.proofs.SeatedLemmas.Rules.Splitting.{kept-by-split}
use Rattle.fastbloom.proofs.SeatedLemmas.Steps.Passes.{pass-not_first, pass-not_spent, same-passes}

-- a step that touches no word
module _ {count passes : ℕ} (s : Standing) (rule : IsSeated count passes s) where
  rests : (v w : Sets) → (w.role ≢ Spent → (v.role ≢ Spent) × (w.start ≡ v.start))
      → (v.role ≢ First) × (w.role ≢ First) → IsPart (set_of w.known) (content s.words)
      → IsPart (set_of w.gained) (set_of w.known) → w.gained ≡ v.gained
      → ((p : ℕ) → set_of w.gained p ≡ true → w.role ≡ Pass) → (w.role ≡ Pass → 1 ≤ w.passes)
      → IsStep s v w s.words
  rests v w live settled known gained_known same gained_by one_each = record {
    count = refl;
    live = live;
    settled = settled;
    grown = λ p on. on;
    known = known;
    gained_known = gained_known;
    gained = λ p is. inl (subst (λ l. set_of l p ≡ true) same is);
    kept = λ p is. subst (λ l. set_of l p ≡ true) (sym same) is;
    gained_by = gained_by;
    one_each = one_each;
    accounted = λ p on. inl on;
  }

-- a note is split off: the pass stays as it is
pub tells : (count passes seat : ℕ) (v : Sets) → v.role ≡ Pass
    → Splits (IsSeated count passes) seat v v (note_of v)
tells count passes seat v pass s rule at =
    let same : set s.views seat v ≡ s.views = set_again s.views seat v at in
    subst (λ l. IsSeated count passes
    (record { words = s.words; homes = s.homes; views = l ++ note_of v ∷ [] })) (sym same)
    (as-many (omega arith) (kept-by-split s rule seat v (note_of v) at
    (pass-not_first v pass, λ is. let bad : Note ≡ First = is in cc)
    (pass-not_spent v pass, refl) (λ p is. is) refl
    (λ is. let bad : Note ≡ Pass = is in cc)))

-- a new pass is split off: the seat stands for one less
pub begins : (count passes seat : ℕ) (v : Sets) → IsFresh v → 1 < v.passes
    → Splits (IsSeated count passes) seat v (less_one v) (one_of v)
begins count passes seat v fresh more s rule at =
    let v_is = fresh.role in
    let s_less : Standing =
    record { words = s.words; homes = s.homes; views = set s.views seat (less_one v) } in
    let number = passes-set s.views seat v (less_one v) at in
    let less = kept-by-step s rule seat v (less_one v) s.words at
    (rests s rule v (less_one v) (λ is. (is, refl)) (pass-not_first v v_is, pass-not_first v v_is)
    (rule.known_is_set seat v at) (rule.gained_known seat v at) refl (λ p is. v_is)
    (λ is. omega arith)) in
    as-many (omega (arith, number, rule.few))
    (kept-by-split s_less less seat (less_one v) (one_of v)
    (set_here s.views seat (less_one v) (seat-within s.views seat v at))
    (pass-not_first v v_is, pass-not_first v v_is) (pass-not_spent v v_is, refl)
    (λ p is. is) fresh.gained (λ is. le_refl 1))

-- a note of what a pass knows arrives
pub hears : (count passes seat : ℕ) (v : Sets) (other : ℕ) (u : Sets) (me : Sat) → v.role ≡ Pass
    → me ≡ (note_of u, [])
    → Joins (IsSeated count passes) seat v other me.0 (informed v me.0) spent_view
hears count passes seat v other u me pass is_note s rule at else there =
    let w : Sets = me.0 in
    let note = ap (λ (x : Sat). x.0.role) is_note in
    let empty = ap (λ (x : Sat). x.0.gained) is_note in
    let none_left = ap (λ (x : Sat). x.0.passes) is_note in
    let was : Has s other w = sym (set_else s.views seat other (informed v w) else) ∙ there in
    let heard = as-many (same-passes s rule seat v (informed v w) at refl)
    (kept-by-step s rule seat v (informed v w) s.words at
    (rests s rule v (informed v w) (λ is. (is, refl))
    (pass-not_first v pass, pass-not_first v pass)
    (λ p is. elim (in-either v.known w.known p is) [
      | inl mine ↦ rule.known_is_set seat v at p mine
      | inr theirs ↦ rule.known_is_set other w was p theirs
    ])
    (λ p is. in-left v.known w.known p (rule.gained_known seat v at p is)) refl (λ p is. pass)
    (λ is. rule.one_each seat v at pass))) in
    let s_heard : Standing =
    record { words = s.words; homes = s.homes; views = set s.views seat (informed v w) } in
    as-many (same-passes s_heard heard other w spent_view there (sym none_left))
    (kept-by-step s_heard heard other w spent_view s.words there
    (rests s_heard heard w spent_view (λ is. absurd (is refl))
    ((λ is. let bad : Note ≡ First = sym note ∙ is in cc), λ is. let bad : Spent ≡ First = is in cc)
    (λ p is. absurd (in-none p is)) (λ p is. absurd (in-none p is)) (sym empty)
    (λ p is. absurd (in-none p is)) (λ is. let bad : Spent ≡ Pass = is in cc)))

-- the pass that a note joined knows what the note was made of
pub informed-note : (v u : Sets) (now note : Sat) (slots : List (ℕ × Unit {0}))
    → now ≡ (informed v note.0, slots) → note ≡ (note_of u, []) → now.0 ≡ informed v (note_of u)
informed-note v u now note slots joined made =
    ap (λ m. m.0) joined ∙ ap (λ m. informed v m.0) made
