-- The filters, keys and inputs that the facts of this crate are about. Among 64 bits and with two
-- hashes key "a" (byte 97) has the positions 16 and 28, and "b" 34 and 48: 268500992 is the word of
-- "a" alone, 281492156579840 that of "b", and 281492425080832 that of both. In one line of 512 bits
-- "a" has 201 and 220, by `dev/blocked-model`: 268435968 is its fourth word. The hashes were made
-- by another program.
use Rattle.std.proofs.Common.{◌≡◌, ◌≤◌, ◌<◌, ℕ, ◌^◌, Bool, true, false, ◌||◌, List, [], ◌∷◌, length, Option, Some, None, refl, sym, subst, ap, ◌∙◌, lit<, lit≤, arith, append-nil}
use Rattle.std.specs.Prelude.{IfSome}
use Rattle.summaries_engine.proofs.Common.{All-from_recursion, chain, content, positions, sip, start, round, absorb, answer, whole_words, rest, DefaultFilter, positions_of_all, LineRangeLaw, line_positions, Shape, lines_by, AnyFilter, Classic, Blocked, HaveKeys, Lies, parts_of, Named, IsFilled, IsSummaryOf, joined}
use Rattle.std.proofs.lemmas.Option.{none-some}
use Rattle.bloom_parts.specs.Hashed.{SipState}
use Rattle.bloom_parts.specs.declared.math.estimate.Estimate.{Estimate}
use Rattle.bloom_plain.proofs.CaseLemmas.{alike_below, content-case, positions-past}
use Rattle.fastbloom.specs.Many.{positions_in_lines}
use Rattle.lines.specs.Reading.{AreShort, IsReadWholeBy}

-- ---- filters

-- a hasher of this key, which has taken in nothing
abbrev state_of : ℕ → ℕ → SipState
state_of low high =
    record { low = low; high = high; words = start low high; held = []; count = 0 }

-- a filter of these words and hashes under this key
abbrev pub made_of : List ℕ → ℕ → ℕ → ℕ → DefaultFilter
made_of words hashes low high =
    record { words = words; hashes = hashes; hasher = record { hasher = state_of low high } }

-- a filter of one word and two hashes, under the zero key
abbrev pub filter : ℕ → DefaultFilter
filter word = made_of (word ∷ []) 2 0 0

-- a filter of one line, whose fourth word is this, and two hashes, under the zero key
abbrev pub line : ℕ → DefaultFilter
line word = made_of (0 ∷ 0 ∷ 0 ∷ word ∷ 0 ∷ 0 ∷ 0 ∷ 0 ∷ []) 2 0 0

-- the Bloom filters of "a", of "b" and of both
abbrev pub of_a : AnyFilter
of_a = Classic (filter 268500992)

abbrev pub of_b : AnyFilter
of_b = Classic (filter 281492156579840)

abbrev pub of_both : AnyFilter
of_both = Classic (filter 281492425080832)

-- one word and two hashes
abbrev pub shape : Shape
shape = record {
  num_words = 1;
  num_hashes = 2;
  is_shape = record {
    some_words = lit≤ tt;
    few_words = lit< tt;
    some_hashes = lit≤ tt;
    few_hashes = lit< tt;
  };
}

-- one line and two hashes
abbrev pub line_shape : Shape
line_shape = record {
  num_words = 8;
  num_hashes = 2;
  is_shape = record {
    some_words = lit≤ tt;
    few_words = lit< tt;
    some_hashes = lit≤ tt;
    few_hashes = lit< tt;
  };
}

-- a name has one byte, which is the number of hashes of the filter under it
abbrev pub counted : Named
counted name f = name ≡ (parts_of f).hashes ∷ []

-- two and three hashes
abbrev pub of_two : AnyFilter
of_two = Classic (made_of [] 2 0 0)

abbrev pub of_three : AnyFilter
of_three = Classic (made_of [] 3 0 0)

-- ---- keys and summaries

abbrev pub key_a : List ℕ
key_a = 97 ∷ []

abbrev pub key_b : List ℕ
key_b = 98 ∷ []

-- the hashes of both under the zero key
pub hash-a : sip 0 0 key_a ≡ 0x4074_48d2_b89b_1813
unfolding sip start round absorb answer whole_words rest
hash-a = refl

pub hash-b : sip 0 0 key_b ≡ 0x8b22_cf26_02fb_60ce
unfolding sip start round absorb answer whole_words rest
hash-b = refl

-- a word is filled with a hash whose positions it has, and no others
filled-word : (word hash : ℕ) → hash < 2 ^ 64
    → alike_below 64 (content (word ∷ [])) (positions_of_all 64 2 (hash ∷ [])) ≡ true
    → IsFilled shape (hash ∷ []) (Classic (filter word))
filled-word word hash fits alike = record {
  words = refl;
  num_hashes = refl;
  bits = content-case (word ∷ []) (positions_of_all 64 2 (hash ∷ [])) alike
      (λ p past. ap (λ b. b || false) (positions-past 64 2 hash p (lit< tt) fits past));
}

pub summary-a : IsSummaryOf shape (key_a ∷ []) of_a
unfolding content positions chain
summary-a =
    subst (λ h. IsFilled shape (h ∷ []) of_a) (sym hash-a)
    (filled-word 268500992 0x4074_48d2_b89b_1813 (lit< tt) refl)

pub summary-b : IsSummaryOf shape (key_b ∷ []) of_b
unfolding content positions chain
summary-b =
    subst (λ h. IsFilled shape (h ∷ []) of_b) (sym hash-b)
    (filled-word 281492156579840 0x8b22_cf26_02fb_60ce (lit< tt) refl)

-- a hash has no position past a line
past-line : LineRangeLaw → (p : ℕ) → 512 ≤ p
    → line_positions 1 2 0x4074_48d2_b89b_1813 p ≡ false
past-line range p past =
    never (line_positions 1 2 0x4074_48d2_b89b_1813 p)
    (λ on. let below = range 1 2 0x4074_48d2_b89b_1813 p (lit< tt) (lit< tt) on in
    omega (arith, below, past))
  where
    never : (b : Bool) → (b ≡ true → ⊥) → b ≡ false
    never true not = absurd (not refl)
    never false not = refl

pub summary-line : LineRangeLaw → IsSummaryOf line_shape (key_a ∷ []) (Blocked (line 268435968))
unfolding content positions chain
summary-line range =
    subst (λ h. IsFilled line_shape (h ∷ []) (Blocked (line 268435968))) (sym hash-a) (record {
      words = refl;
      num_hashes = refl;
      bits = content-case (line 268435968).words
          (positions_in_lines 1 2 (0x4074_48d2_b89b_1813 ∷ [])) refl
          (λ p past. ap (λ b. b || false) (past-line range p past));
    })

-- ---- inputs

-- an input has the bytes of its own name
abbrev pub own : Lies
own name read = read ≡ Some name

-- no name fails: whatever has one can be had
abbrev pub never : {E : Type 0} → List ℕ → E → Type 0
never name error = ⊥

-- a key that isn't too long
short : (key : List ℕ) → length key ≤ 65536 → AreShort 65536 (key ∷ [])
short key few = All-from_recursion (λ key. length key ≤ 65536) (key ∷ []) (few, tt)

-- the keys of two inputs: the first's has no end, and isn't joined with the second's
pub both-keys : HaveKeys own 10 (key_a ∷ (98 ∷ 10 ∷ []) ∷ [])
    ((key_a ∷ []) ∷ (key_b ∷ []) ∷ [])
unfolding lines_by
both-keys = (
  record {
    read = Some key_a;
    left = Some [];
    there = refl;
    whole = record { are_lines = refl; none_left = refl };
    short = short key_a (omega arith);
  },
  (
    record {
      read = Some (98 ∷ 10 ∷ []);
      left = Some [];
      there = refl;
      whole = record { are_lines = refl; none_left = refl };
      short = short key_b (omega arith);
    },
    tt,
  ),
)

-- an input alone has its key alone
pub one-key : (parts : List (List (List ℕ))) → HaveKeys own 10 (key_a ∷ []) parts
    → joined parts ≡ key_a ∷ []
unfolding lines_by
one-key [] has = absurd has
one-key (keys ∷ []) has =
    let are : key_a ∷ [] ≡ keys =
    (subst (λ read. IsReadWholeBy 10 read has.0.left keys) has.0.there has.0.whole).are_lines in
    append-nil keys ∙ sym are
one-key (keys ∷ part ∷ parts) has = absurd has.1

-- ---- estimates

-- two bounds, and a lower one alone
abbrev pub from_to : (low high : ℕ) → low ≤ high → Estimate
from_to low high ordered = record {
  low = low;
  high = Some high;
  ordered = λ x is. subst (λ (most : Option ℕ). IfSome most (λ it. low ≤ it)) is ordered;
}

abbrev pub from : ℕ → Estimate
from low = record { low = low; high = None; ordered = λ x is. absurd (none-some x is) }
