-- Bit sets of one word, and of a word after the other.
use Rattle.std.proofs.Common.{◌≢◌, eqb, ◌≡◌, ◌<◌, ◌+◌, ◌*◌, ◌/◌, ◌%◌, ◌^◌, ℕ, Bool, ◌||◌, ◌&&◌, ◌==◌, if◌then◌else◌, List, length, set, get_or, bit_or, nat_lt, [], ◌∷◌, ◌≤◌, refl, sym, ◌∙◌, ap, subst, arith, inl, inr}
use Rattle.bloom_blocked.proofs.Common.{cases_eq, cases_lt, lt-ltb, le-ltb, bit_at, bit_is_on, content}
use Rattle.std.proofs.Math.Arith.{lt_of_le-ne}
use Rattle.std.proofs.lemmas.List.{get_or-set_same, get_or-set_other}
use Rattle.bloom_parts.proofs.PublishedLemmas.{content-where}

-- a bit of a word that is set where it is to be, and the others
pub word-where : (word i : ℕ) (on : Bool) (mask : ℕ) → i < 64
    → mask ≡ (if on then 2 ^ i else 0) → (p : ℕ)
    → content (bit_or word mask ∷ []) p ≡ (content (word ∷ []) p || p == i && on)
word-where word i on mask within is p =
    let first : i / 64 ≡ 0 = omega (arith, within) in
    let small : i ≡ i % 64 = omega (arith, within) in
    subst (λ j. content (set (word ∷ []) j (bit_or (get_or (word ∷ []) j 0) mask)) p
    ≡ (content (word ∷ []) p || p == i && on)) first
    (content-where (word ∷ []) i on mask within (is ∙ ap (λ j. if on then 2 ^ j else 0) small) p)

-- whether a bit is set in a word that stands in a bit set by itself
word-alone : (v q : ℕ) → q < 64 → content (v ∷ []) q ≡ bit_is_on v q
unfolding content
word-alone v q small =
    let first : q / 64 ≡ 0 = omega (arith, small) in
    rw (first) refl

-- the bits of a word that is set
set-here : (words : List ℕ) (turn v p : ℕ) → turn < length words → p / 64 ≡ turn
    → content (set words turn v) p ≡ content (v ∷ []) (p % 64)
unfolding content
set-here words turn v p within here =
    let bit : p % 64 % 64 ≡ p % 64 = omega arith in
    ap (λ w. bit_is_on w p)
    (ap (λ j. get_or (set words turn v) j 0) here ∙ get_or-set_same words turn v 0 within)
    ∙ ap (λ j. eqb (bit_at v j) 1) (sym bit)
    ∙ sym (word-alone v (p % 64) (omega arith))

-- the bits of the others
set-others : (words : List ℕ) (turn v p : ℕ) → p / 64 ≢ turn
    → content (set words turn v) p ≡ content words p
unfolding content
set-others words turn v p apart =
    ap (λ w. bit_is_on w p) (get_or-set_other words turn (p / 64) v 0 apart)

-- one more word of bits
pub bits-word : (F : ℕ → Bool) (count : ℕ) (words : List ℕ) (turn n v : ℕ) → turn < length words
    → 64 * turn + n ≤ count → (n < 64 → 64 * turn + n ≡ count) → n ≤ 64
    → ((p : ℕ) → content words p ≡ (nat_lt p (64 * turn) && (nat_lt p count && F p)))
    → ((q : ℕ) → content (v ∷ []) q ≡ (nat_lt q n && F (64 * turn + q)))
    → (p : ℕ) → content (set words turn v) p
    ≡ (nat_lt p (64 * (turn + 1)) && (nat_lt p count && F p))
bits-word F count words turn n v within fits last most before word p =
    let at = 64 * turn in
    elim (cases_eq (p / 64) turn) [
      | inl here ↦
          let q = p % 64 in
          set-here words turn v p within here ∙ word q ∙ elim (cases_lt q n) [
            | inl small ↦
                let same : at + q ≡ p = omega (arith, here) in
                rw (
                  lt-ltb q n small,
                  lt-ltb p (64 * (turn + 1)) (omega (arith, here)),
                  lt-ltb p count (omega (arith, here, small, fits)),
                ) (ap F same)
            | inr large ↦
                let end : at + n ≡ count = last (omega (arith, large)) in
                rw (
                  le-ltb q n large,
                  lt-ltb p (64 * (turn + 1)) (omega (arith, here)),
                  le-ltb p count (omega (arith, here, large, end)),
                ) refl
          ]
      | inr apart ↦
          set-others words turn v p apart ∙ before p ∙ elim (cases_lt p at) [
            | inl below ↦
                rw (lt-ltb p at below, lt-ltb p (64 * (turn + 1)) (omega (arith, below))) refl
            | inr past ↦
                let beyond : turn + 1 ≤ p / 64 =
                omega (arith, lt_of_le-ne (omega (arith, past)) (λ e. apart (sym e))) in
                rw (le-ltb p at past, le-ltb p (64 * (turn + 1)) (omega (arith, beyond))) refl
          ]
    ]
