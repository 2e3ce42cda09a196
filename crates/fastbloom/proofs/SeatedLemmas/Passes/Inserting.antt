-- What steps that set positions do one after the other.
use Rattle.std.proofs.Common.{◌≡◌, ℕ, Bool, true, false, ◌||◌, ◌&&◌, inl, inr, refl, ap, ◌∙◌, subst}
use Rattle.fastbloom.proofs.Common.{both_ways, or_cases, or_left, or_right, false_from_ne_true, and_parts, content}
use Rattle.fastbloom.specs.Passes.{Sight, known_of, gained_of, sure_of, HasGained, InsertsAs}

-- no step sets no position
pub inserts-none : (old : Sight) → InsertsAs (λ p. false) old old true
inserts-none old = record {
  same = record { filter = refl; start = refl };
  known = λ p. or-none (known_of old p);
  kept = λ p is. is;
  gained = λ p is. inl is;
  grew = λ no. absurd (both_ways true no refl);
  stayed = λ yes p is. is;
}
  where
    or-none : (b : Bool) → b ≡ (b || false)
    or-none true = refl
    or-none false = refl

-- steps one after the other set the positions of both
module _ (P Q : ℕ → Bool) (old mid new : Sight) (a b : Bool) (first : InsertsAs P old mid a)
    (second : InsertsAs Q mid new b) where
  -- what a pass can't be sure of after the first step it couldn't be sure of before
  unsure-before : (p : ℕ) → sure_of mid p ≡ false → sure_of old p ≡ false
  unsure-before p off = false_from_ne_true (sure_of old p) (λ sure.
      elim (or_cases (content old.start p) (known_of old p) sure) [
        | inl begun ↦
            both_ways (sure_of mid p) off (or_left (content mid.start p) (known_of mid p)
            (ap (λ l. content l p) first.same.start ∙ begun))
        | inr known ↦
            both_ways (sure_of mid p) off (or_right (content mid.start p) (known_of mid p)
            (first.known p ∙ or_left (known_of old p) (P p) known))
      ])

  -- three tests of which one must hold
  or-three : (x y z : Bool) → ((x || y) || z) ≡ (x || (y || z))
  or-three true y z = refl
  or-three false y z = refl

  pub inserts-then : InsertsAs (λ p. P p || Q p) old new (a && b)
  inserts-then = record {
    same = record {
      filter = second.same.filter ∙ first.same.filter;
      start = second.same.start ∙ first.same.start;
    };
    known = λ p.
        second.known p ∙ ap (λ x. x || Q p) (first.known p) ∙ or-three (known_of old p) (P p) (Q p);
    kept = λ p is. second.kept p (first.kept p is);
    gained = λ p is. elim (second.gained p is) [
      | inl was ↦ elim (first.gained p was) [
        | inl before ↦ inl before
        | inr one ↦ inr (or_left (P p) (Q p) one.0, one.1)
      ]
      | inr two ↦ inr (or_right (P p) (Q p) two.0, unsure-before p two.1)
    ];
    grew = grew-by a b first second;
    stayed = λ yes p is.
        let both = and_parts a b yes in first.stayed both.0 p (second.stayed both.1 p is);
  }
    where
      grew-by : (x y : Bool) → InsertsAs P old mid x → InsertsAs Q mid new y → (x && y) ≡ false
          → HasGained old new
      grew-by true y one two off =
          let more = two.grew off in
          record {
            position = more.position;
            gained = more.gained;
            before = false_from_ne_true (gained_of old more.position)
                (λ was. both_ways (gained_of mid more.position) more.before
                (one.kept more.position was));
          }
      grew-by false y one two off =
          let more = one.grew refl in
          record {
            position = more.position;
            gained = two.kept more.position more.gained;
            before = more.before;
          }

-- a set of the same positions may stand for the set
pub inserts-as : (P Q : ℕ → Bool) (old new : Sight) (a : Bool) → ((p : ℕ) → P p ≡ Q p)
    → InsertsAs P old new a → InsertsAs Q old new a
inserts-as P Q old new a same did =
    subst (λ (F : ℕ → Bool). InsertsAs F old new a) (λ i. λ p. same p i) did
