-- Stretches of the places of a hash that are set one after the other.
use Rattle.std.proofs.Common.{◌≡◌, ℕ, zero, suc, ◌+◌, ◌*◌, Bool, true, false, ◌||◌, ◌&&◌, eqb, bit_or, List, length, refl, sym, subst, ◌∙◌, ap, arith}
use Rattle.bloom_parts.proofs.Common.{or-false, or_assoc, ne_eqb, IsAt, content, positions, are_in}
use Rattle.std.proofs.lemmas.Nat.{le_or_l}
use Rattle.std.specs.Int.Bits.{or_zero_l}
use Rattle.bloom_parts.specs.declared.hasher.chain.DoubleHasher.{DoubleHasher}
use Rattle.bloom_parts.specs.Stretches.{positions_from, are_in_from, TurnsOn, Advances, TurnsOnNext, HasTurnedOn}
use Rattle.bloom_parts.proofs.StretchLemmas.{positions_from-zero, are_in_from-zero, positions_from-start, are_in_from-start, positions_from-append, test-after}

-- the `|` of two words is 0 exactly if both are
none-of-both : (a b : ℕ) → eqb (bit_or a b) 0 ≡ (eqb a 0 && eqb b 0)
none-of-both zero b = ap (λ n. eqb n 0) (or_zero_l b)
none-of-both (suc a) b =
    let some = le_or_l (suc a) b in
    let both : eqb (bit_or (suc a) b) 0 ≡ false =
    ne_eqb (bit_or (suc a) b) 0 (λ none. absurd (omega (arith, some, none))) in
    let first : eqb (suc a) 0 ≡ false = ne_eqb (suc a) 0 (λ none. absurd (omega (arith, none))) in
    both ∙ ap (λ c. c && eqb b 0) (sym first)

-- two stretches are set one after the other
turns_on-append : (i a b h : ℕ) (old mid new : List ℕ) (r s : Bool)
    → TurnsOn i a h old mid r → TurnsOn (i + a) b h mid new s → TurnsOn i (a + b) h old new (r && s)
turns_on-append i a b h old mid new r s one two =
    let n = 64 * length old in
    let size : 64 * length mid ≡ n = ap (λ k. 64 * k) one.shape in
    record {
      answers =
          ap (λ c. c && s) one.answers
          ∙ ap (λ c. are_in_from n i a h (content old) && c) two.answers
          ∙ ap (λ m. are_in_from n i a h (content old) && are_in_from m (i + a) b h (content mid))
          size
          ∙ test-after n i a b h (content old) (content mid) one.bits;
      bits = λ p.
          two.bits p
          ∙ ap (λ m. content mid p || positions_from m (i + a) b h p) size
          ∙ ap (λ c. c || positions_from n (i + a) b h p) (one.bits p)
          ∙ or_assoc (content old p) (positions_from n i a h p) (positions_from n (i + a) b h p)
          ∙ ap (λ c. content old p || c) (sym (positions_from-append n i a b h p));
      shape = two.shape ∙ one.shape;
    }

-- the same where one word gathers what was clear
turns_on-both : (i a b h : ℕ) (old mid new : List ℕ) (v w : ℕ) → TurnsOn i a h old mid (eqb v 0)
    → TurnsOn (i + a) b h mid new (eqb w 0) → TurnsOn i (a + b) h old new (eqb (bit_or v w) 0)
turns_on-both i a b h old mid new v w one two =
    subst (TurnsOn i (a + b) h old new) (sym (none-of-both v w))
    (turns_on-append i a b h old mid new (eqb v 0) (eqb w 0) one two)

-- no place is set
turns_on-none : (i h : ℕ) (words : List ℕ) → TurnsOn i 0 h words words true
turns_on-none i h words = record {
  answers = sym (are_in_from-zero (64 * length words) i h (content words));
  bits = λ p.
      sym (or-false (content words p))
      ∙ ap (λ b. content words p || b) (sym (positions_from-zero (64 * length words) i h p));
  shape = refl;
}

-- a chain goes on twice
pub advances-then : (a b : ℕ) (x y z : DoubleHasher) → Advances a x y → Advances b y z
    → Advances (a + b) x z
advances-then a b x y z one two hash i at =
    let same : i + a + b ≡ i + (a + b) = omega arith in
    subst (λ m. IsAt hash m z) same (two hash (i + a) (one hash i at))

-- a chain stays where it is
pub advances-none : (x : DoubleHasher) → Advances 0 x x
advances-none x hash i at = let same : i ≡ i + 0 = omega arith in subst (λ m. IsAt hash m x) same at

-- at the start of a chain no place has been set
pub turned_on-none : (hash : ℕ) (words : List ℕ) (chain : DoubleHasher) → IsAt hash 0 chain
    → HasTurnedOn hash 0 words words chain 0
turned_on-none hash words chain at = record { stands = at; turned = turns_on-none 0 hash words }

-- at the start of a chain one call sets them
pub turned_on-once : {hash count : ℕ} {old new : List ℕ} {x y : DoubleHasher} {w : ℕ}
    → IsAt hash 0 x
    → record { turns_on : TurnsOnNext count x old new w; moved : Advances count x y }
    → HasTurnedOn hash count old new y w
turned_on-once {hash} {count} {old} {new} {x} {y} {w} at next =
    let all : 0 + count ≡ count = omega arith in
    record {
      stands = subst (λ m. IsAt hash m y) all (next.moved hash 0 at);
      turned = next.turns_on hash 0 at;
    }

-- some more are set by one call
pub turned_on-add : {hash a count : ℕ} {old mid new : List ℕ} {x y : DoubleHasher} {v : ℕ}
    (b w : ℕ) → a + b ≡ count → HasTurnedOn hash a old mid x v
    → record { turns_on : TurnsOnNext b x mid new w; moved : Advances b x y }
    → HasTurnedOn hash count old new y (bit_or v w)
turned_on-add {hash} {a} {count} {old} {mid} {new} {x} {y} {v} b w all done next =
    let start : a ≡ 0 + a = omega arith in
    let before =
    subst (λ m. TurnsOn m b hash mid new (eqb w 0)) start (next.turns_on hash a done.stands) in
    record {
      stands = subst (λ m. IsAt hash m y) all (next.moved hash a done.stands);
      turned = subst (λ m. TurnsOn 0 m hash old new (eqb (bit_or v w) 0)) all
          (turns_on-both 0 a b hash old mid new v w done.turned before);
    }

module _ {hash count k : ℕ} {old new : List ℕ} {chain : DoubleHasher} {was_off : ℕ}
    (all : count ≡ k) (done : HasTurnedOn hash count old new chain was_off) where
  -- once all places of a hash were set, the word tells whether all were set before
  pub turned_on-reply : eqb was_off 0 ≡ are_in (64 * length old) k hash (content old)
  turned_on-reply =
      done.turned.answers ∙ are_in_from-start (64 * length old) count hash (content old)
      ∙ ap (λ m. are_in (64 * length old) m hash (content old)) all

  -- once all places of a hash were set, its positions are set besides what was
  pub turned_on-content : (p : ℕ) → content new p
      ≡ (content old p || positions (64 * length old) k hash p)
  turned_on-content p =
      done.turned.bits p
      ∙ ap (λ b. content old p || b) (positions_from-start (64 * length old) count hash p)
      ∙ ap (λ m. content old p || positions (64 * length old) m hash p) all
