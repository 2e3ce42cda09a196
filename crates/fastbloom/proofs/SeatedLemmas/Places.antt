-- The places of a hash, one after the other.
use Rattle.std.proofs.Common.{◌≡◌, ℕ, suc, ◌+◌, ◌*◌, ◌/◌, Bool, true, false, ◌||◌, ◌&&◌, eqb, inl, inr, refl, sym, ap, ◌∙◌, subst, arith}
use Rattle.fastbloom.proofs.Common.{chain, place, positions, LooksAt, Sight, InsertsAs, Looks, GrowsBeside}
use Rattle.bloom_parts.specs.Content.{index_of}
use Rattle.fastbloom.proofs.SeatedLemmas.Passes.Inserting.{inserts-none, inserts-then, inserts-as}

-- where the next hash of the chain lies among these bits is the next place
pub next-place : (count words hash i next position : ℕ) → count ≡ words → next ≡ chain hash i
    → position ≡ index_of (count * 64) next → position ≡ place (64 * words) hash i
next-place count words hash i next position counted is at =
    let bits : count * 64 ≡ 64 * words = omega (arith, counted) in
    at ∙ ap (λ n. index_of n next) bits ∙ ap (index_of (64 * words)) is

-- the positions with one place more
positions-next : (n hash i q : ℕ) → q ≡ place n hash i
    → (p : ℕ) → (positions n i hash p || eqb p q) ≡ positions n (i + 1) hash p
unfolding positions
positions-next n hash i q is p =
    let next : suc i ≡ i + 1 = omega arith in
    ap (λ r. positions n i hash p || eqb p r) is ∙ ap (λ j. positions n j hash p) next

-- no place was set yet
pub inserts-begin : (n hash : ℕ) (old : Sight) → InsertsAs (positions n 0 hash) old old true
unfolding positions
inserts-begin n hash old =
    inserts-as (λ p. false) (positions n 0 hash) old old true (λ p. refl) (inserts-none old)

-- the next place is set
pub inserts-next : (n hash i q : ℕ) (old mid new : Sight) (a b both : Bool) → q ≡ place n hash i
    → both ≡ (a && b) → InsertsAs (positions n i hash) old mid a
    → InsertsAs (λ p. eqb p q) mid new b → InsertsAs (positions n (i + 1) hash) old new both
inserts-next n hash i q old mid new a b both is both_is first second =
    subst (InsertsAs (positions n (i + 1) hash) old new) (sym both_is)
    (inserts-as (λ p. positions n i hash p || eqb p q) (positions n (i + 1) hash) old new (a && b)
    (positions-next n hash i q is)
    (inserts-then (positions n i hash) (λ p. eqb p q) old mid new a b first second))

-- a look at the next place
module _ (n hash i q : ℕ) (old mid new : Sight) (answer : Bool) (is : q ≡ place n hash i)
    (first : Looks n hash i old mid) (beside : GrowsBeside n hash i old mid)
    (second : LooksAt q mid new answer) where
  -- what is new lies in a word that was loaded
  pub grows-next : GrowsBeside n hash (i + 1) old new
  grows-next p known = elim (second.grown p known) [
    | inl was ↦ elim (beside p was) [
      | inl before ↦ inl before
      | inr near ↦
          let below = near.below in
          inr (record { index = near.index; below = omega arith; word = near.word })
    ]
    | inr here ↦ inr (record {
      index = i;
      below = omega arith;
      word = here ∙ ap (λ r. r / 64) is;
    })
  ]

-- no place was looked at yet
pub looks-begin : (n hash : ℕ) (old : Sight) → Looks n hash 0 old old
looks-begin n hash old = record {
  same = record { filter = refl; start = refl };
  gained = refl;
  kept = λ p known. known;
  found = λ j below. absurd (omega arith);
}
