-- Filters and passes that the facts of this crate share.
use Rattle.std.proofs.Common.{◌≡◌, ℕ, ◌/◌, ◌%◌, ◌^◌, ◌<◌, true, false, eqb, List, [], ◌∷◌, inl, inr, refl, sym, ap, ◌∙◌, arith, lit<, lit≤}
use Rattle.fastbloom.proofs.Common.{or-false, both_ways, cases_lt, eqb-true, TableId, bit_is_on, content, bit_is_on-mask, content-past, Filter, SeatedFilter, Sight, IsSamePass, set_of, SharedFilter}
use Rattle.fastbloom.specs.declared.parallel.shape.Shape.{Shape}
use Rattle.fastbloom.proofs.SeatedLemmas.Words.{content-word}

-- a plain filter of these words, of three hashes, whose hasher is a number
abbrev pub plain : List ℕ → ℕ → Filter ℕ
plain words hasher = record { words = words; hashes = 3; hasher = hasher }

-- the shape of one word and three hashes
abbrev pub shape : Shape
shape = record {
  num_words = 1;
  num_hashes = 3;
  is_shape = record {
    some_words = lit≤ tt;
    few_words = lit< tt;
    some_hashes = lit≤ tt;
    few_hashes = lit< tt;
  };
}

-- a shared filter of this many words and hashes, under a name, whose hasher is a number
abbrev pub shared : ℕ → ℕ → ℕ → SharedFilter ℕ
shared name words hashes = record {
  words = record { name = name; count = words };
  hashes = hashes;
  hasher = 7;
}

-- a table of this many words, told from others by its name
abbrev pub table : ℕ → ℕ → TableId
table words name = record {
  words = words;
  slots = 0;
  views_name = name;
  atom = 0;
  block = 0;
  offset = 0;
  slot_names = [];
}

-- a seated filter of one word and two hashes, and a pass of it
abbrev pub seated : SeatedFilter
seated = record { table = table 1 7; hashes = 2; passes = 2 }

abbrev pub pass : ℕ → List ℕ → List ℕ → Sight
pass start known gained = record {
  filter = table 1 7;
  start = start ∷ [];
  known = known;
  gained = gained;
}

-- two passes of the table with the same start are the same pass
pub same-pass : (start : ℕ) (a b c d : List ℕ) → IsSamePass (pass start a b) (pass start c d)
same-pass start a b c d = record { filter = refl; start = refl }

-- nothing is in the set of the empty list
pub nothing : (p : ℕ) → set_of [] p ≡ true → ⊥
unfolding set_of
nothing p is = both_ways false refl is

-- the set of one number
pub one-from : (q p : ℕ) → set_of (q ∷ []) p ≡ true → p ≡ q
unfolding set_of
one-from q p is = eqb-true p q (sym (or-false (eqb p q)) ∙ is)

-- the position of a word with one bit
pub single-from : (q p : ℕ) → q < 64 → content (2 ^ q ∷ []) p ≡ true → p ≡ q
single-from q p small on = elim (cases_lt (p / 64) 1) [
  | inl within ↦
      let here : p / 64 ≡ 0 = omega arith in
      let word : p / 64 ≡ q / 64 = omega arith in
      let bit : q % 64 ≡ q = omega arith in
      eqb-true p q (sym (bit_is_on-mask p q word)
      ∙ ap (λ j. bit_is_on (2 ^ j) p) bit ∙ sym (content-word (2 ^ q ∷ []) 0 p here) ∙ on)
  | inr past ↦ absurd (both_ways (content (2 ^ q ∷ []) p) (content-past (2 ^ q ∷ []) p past) on)
]

-- below one there is nothing but zero
pub only-first : (i : ℕ) → i < 1 → i ≡ 0
only-first i below = omega arith
