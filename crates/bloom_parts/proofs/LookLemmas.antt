-- Stretches of the places of a hash that are looked at one after the other.
use Rattle.std.proofs.Common.{◌≡◌, ◌≢◌, ℕ, ◌+◌, ◌-◌, ◌*◌, ◌≤◌, Bool, true, false, ◌&&◌, eqb, List, length, refl, sym, subst, ◌∙◌, ap, arith, inl, inr}
use mir.Val.{bool_byte}
use Rattle.bloom_parts.proofs.Common.{and-false, cases_eq, ne_eqb, eq-eqb, IsAt, content, are_in}
use Rattle.bloom_parts.specs.declared.hasher.chain.DoubleHasher.{DoubleHasher}
use Rattle.bloom_parts.specs.Stretches.{are_on, Advances, TellsNext}
use Rattle.bloom_parts.proofs.StretchLemmas.{are_in_from-zero, are_in_from-start, are_in_from-append}

-- two stretches are looked at one after the other
are_on-append : (words : List ℕ) (i a b h : ℕ)
    → are_on words i (a + b) h ≡ (are_on words i a h && are_on words (i + a) b h)
are_on-append words i a b h = are_in_from-append (64 * length words) i a b h (content words)

-- no place is left to look at
pub tells_next-none : (chain : DoubleHasher) (words : List ℕ) → TellsNext 0 chain words true
tells_next-none chain words hash i at =
    sym (are_in_from-zero (64 * length words) i hash (content words))

-- the next places of a chain are looked at, and then those after them
pub tells_next-then : (a b count : ℕ) (x y : DoubleHasher) (words : List ℕ) (r s : Bool)
    → a + b ≡ count → Advances a x y → TellsNext a x words r → TellsNext b y words s
    → TellsNext count x words (r && s)
tells_next-then a b count x y words r s all moved one two hash i at =
    ap (λ c. c && s) (one hash i at)
    ∙ ap (λ c. are_on words i a hash && c) (two hash (i + a) (moved hash i at))
    ∙ sym (are_on-append words i a b hash) ∙ ap (λ m. are_on words i m hash) all

-- the first places are set, and then the next one
pub tells_next-on : (places : ℕ) (x y : DoubleHasher) (words : List ℕ) (r : Bool)
    → Advances places x y → TellsNext places x words true → r ≡ true → TellsNext 1 y words r
    → TellsNext (places + 1) x words true
tells_next-on places x y words r moved before is next =
    tells_next-then places 1 (places + 1) x y words true true refl moved before
    (subst (TellsNext 1 y words) is next)

-- an answer that is known
pub tells_next-as : (count : ℕ) (chain : DoubleHasher) (words : List ℕ) (r s : Bool) → r ≡ s
    → TellsNext count chain words r → TellsNext count chain words s
tells_next-as count chain words r s same = subst (TellsNext count chain words) same

-- where the next places are not all set, more of them aren't either
pub tells_next-off : (a count : ℕ) (chain : DoubleHasher) (words : List ℕ) → a ≤ count
    → TellsNext a chain words false → TellsNext count chain words false
tells_next-off a count chain words fewer off hash i at =
    let all : a + (count - a) ≡ count = omega arith in
    ap (λ c. c && are_on words (i + a) (count - a) hash) (off hash i at)
    ∙ sym (are_on-append words i a (count - a) hash) ∙ ap (λ m. are_on words i m hash) all

-- where the first places are set and the next one is clear, more of them aren't all set
pub tells_next-stops : (places count : ℕ) (x y : DoubleHasher) (words : List ℕ) (r : Bool)
    → places + 1 ≤ count → Advances places x y → TellsNext places x words true → r ≡ false
    → TellsNext 1 y words r → TellsNext count x words false
tells_next-stops places count x y words r fewer moved before is next =
    tells_next-off (places + 1) count x words fewer
    (tells_next-then places 1 (places + 1) x y words true false refl moved before
    (subst (TellsNext 1 y words) is next))

module _ {hash : ℕ} {chain : DoubleHasher} (k : ℕ) (words : List ℕ) (at : IsAt hash 0 chain) where
  -- the places of a chain that gave none yet are those of its hash
  pub tells-all : (r : Bool) → TellsNext k chain words r
      → r ≡ are_in (64 * length words) k hash (content words)
  tells-all r tells = tells hash 0 at ∙ are_in_from-start (64 * length words) k hash (content words)

  -- where one of the first places is clear, not all places of the hash are set
  pub tells-off : (a : ℕ) → a ≤ k → TellsNext a chain words false
      → false ≡ are_in (64 * length words) k hash (content words)
  tells-off a fewer off = tells-all false (tells_next-off a k chain words fewer off)

-- a digit is 1 at most
pub digit-most : (b : Bool) → bool_byte b ≤ 1
digit-most true = omega arith
digit-most false = omega arith

-- all of one place more are set exactly if all before are and this one is
pub one-more : (on places : ℕ) (b : Bool) → on ≤ places
    → eqb (on + bool_byte b) (places + 1) ≡ (eqb on places && b)
one-more on places true most = elim (cases_eq on places) [
  | inl same ↦
      eq-eqb (on + 1) (places + 1) (omega arith)
      ∙ sym (ap (λ c. c && true) (eq-eqb on places same))
  | inr apart ↦
      let more : on + 1 ≢ places + 1 = λ same. apart (omega arith) in
      ne_eqb (on + 1) (places + 1) more ∙ sym (ap (λ c. c && true) (ne_eqb on places apart))
]
one-more on places false most =
    let fewer : on + 0 ≢ places + 1 = λ same. absurd (omega arith) in
    ne_eqb (on + 0) (places + 1) fewer ∙ sym (and-false (eqb on places))

-- the next place is looked at, and its digit is counted
pub tells_next-count : (on places digit : ℕ) (x y : DoubleHasher) (words : List ℕ) (r : Bool)
    → digit ≡ bool_byte r → on ≤ places → Advances places x y
    → TellsNext places x words (eqb on places) → TellsNext 1 y words r
    → TellsNext (places + 1) x words (eqb (on + digit) (places + 1))
tells_next-count on places digit x y words r is most moved before next =
    tells_next-as (places + 1) x words (eqb on places && r) (eqb (on + digit) (places + 1))
    (sym (ap (λ n. eqb (on + n) (places + 1)) is ∙ one-more on places r most))
    (tells_next-then places 1 (places + 1) x y words (eqb on places) r refl moved before next)
