-- Files of both layouts, at values from outside: cases that hold, and the nearest that don't. The
-- files are those of `Cases`.
use Rattle.std.proofs.Common.{◌≡◌, ℕ, List, [], ◌∷◌, ◌++◌, length, get_or, Some, refl, sym, ap, subst, ◌∙◌, append-nil, arith, inl, inr}
use Rattle.bloom_files.proofs.Common.{sip, start, round, absorb, answer, whole_words, rest, Head, Whole, Lines, bytes_of, AreWhole, IsFileIn, ReadsParts, WritesParts, file_in, sealed_file}
use Rattle.bloom_plain.specs.Filter.{IsShape}
use Rattle.bloom_files.proofs.Cases.{first, head_with, its_head, its_seal, its_word, key_first, key_last, line_file, line_head, line_words, low, unsealed, worked}

-- eight words are a line, and four or nine are none; any number may be no lines
whole : AreWhole Lines 8 × (AreWhole Lines 4 → ⊥) × (AreWhole Lines 9 → ⊥) × AreWhole Whole 4
whole = (refl, λ is. omega (arith, is), λ is. omega (arith, is), tt)

-- the file of the line is the file that the other program wrote
sealed : sealed_file Lines line_head line_words ≡ line_file
unfolding bytes_of sip start round absorb answer whole_words rest
sealed = refl

-- what a filter may have, of one word and of eight
shape-one : IsShape 1 3
shape-one = record {
  some_words = omega arith;
  few_words = omega arith;
  some_hashes = omega arith;
  few_hashes = omega arith;
}

shape-eight : IsShape 8 3
shape-eight = record {
  some_words = omega arith;
  few_words = omega arith;
  some_hashes = omega arith;
  few_hashes = omega arith;
}

-- the word of the file of one word
abbrev pub word : List ℕ
word = 0x1080_0080_4000_1400 ∷ []

-- that file, with its seal and without
pub is_file-worked : IsFileIn Whole worked its_head word
unfolding bytes_of sip start round absorb answer whole_words rest
is_file-worked = record {
  seal = 0x5d9d_8dee_d40a_1ba8;
  narrow = omega arith;
  sealed = inr refl;
  is = refl;
  count = refl;
  shape = shape-one;
  whole = tt;
}

pub is_file-unsealed : IsFileIn Whole unsealed its_head word
unfolding bytes_of
is_file-unsealed = record {
  seal = 0;
  narrow = omega arith;
  sealed = inl refl;
  is = refl;
  count = refl;
  shape = shape-one;
  whole = tt;
}

-- the file of the line, and not without lines, whatever the words
pub is_file-lines : IsFileIn Lines line_file line_head line_words
unfolding bytes_of sip start round absorb answer whole_words rest
is_file-lines = record {
  seal = 0xf4fb_88c6_d0f2_93cb;
  narrow = omega arith;
  sealed = inr refl;
  is = refl;
  count = refl;
  shape = shape-eight;
  whole = refl;
}

is_file-whole : (words : List ℕ) → IsFileIn Whole line_file line_head words → ⊥
unfolding bytes_of
is_file-whole words is =
    let wrong : 1 ≡ 0 = ap (λ l. get_or l 48 0) is.is in omega (arith, wrong)

-- bytes that differ in this measure from both files of the word are none of its files
pub differs : (bytes : List ℕ) (measure : List ℕ → ℕ) → (measure bytes ≡ measure unsealed → ⊥)
    → (measure bytes ≡ measure worked → ⊥) → IsFileIn Whole bytes its_head word → ⊥
unfolding bytes_of sip start round absorb answer whole_words rest
differs bytes measure plain sealed is =
    let file : ℕ → List ℕ = λ seal. file_in Whole its_head seal word in
    elim is.sealed [
      | inl none ↦ plain (ap measure (is.is ∙ ap file none))
      | inr right ↦ sealed (ap measure (is.is ∙ ap file right))
    ]

-- the file of the word has its seal or none: no other, nor is its key swapped, a reserved byte
-- other than 0, or a byte too many
is_file : IsFileIn Whole worked its_head word
    × IsFileIn Whole unsealed its_head word
    × (IsFileIn Whole (head_with (169 ∷ 27 ∷ 10 ∷ 212 ∷ 238 ∷ 141 ∷ 157 ∷ 93 ∷ []) (low 0) (low 0)
    ++ its_word) its_head word → ⊥)
    × (IsFileIn Whole (first ++ low 3 ++ low 1 ++ key_last ++ key_first ++ low 0 ++ low 0 ++ low 0
    ++ its_word) its_head word → ⊥)
    × (IsFileIn Whole (head_with its_seal (low 0) (low 1) ++ its_word) its_head word → ⊥)
    × (IsFileIn Whole (worked ++ 0 ∷ []) its_head word → ⊥)
is_file = (
  is_file-worked,
  is_file-unsealed,
  differs _ (λ l. get_or l 40 0) (λ same. omega (arith, same)) (λ same. omega (arith, same)),
  differs _ (λ l. get_or l 24 0) (λ same. omega (arith, same)) (λ same. omega (arith, same)),
  differs _ (λ l. get_or l 56 0) (λ same. omega (arith, same)) (λ same. omega (arith, same)),
  differs _ length (λ same. omega (arith, same)) (λ same. omega (arith, same)),
)

-- what a head says of this many words and hashes
abbrev says : ℕ → ℕ → Head
says words hashes = record { num_hashes = hashes; num_words = words; k0 = 0; k1 = 0 }

-- no bytes are a file of other words than the head tells, of none or of 2^58, of no hashes or of
-- 2^32, or of a part of a line
no_file : (bytes : List ℕ) (words : List ℕ)
    → (IsFileIn Whole bytes (says 2 3) (0 ∷ []) → ⊥)
    × (IsFileIn Whole bytes (says 0 3) [] → ⊥)
    × (length words ≡ 0x0400_0000_0000_0000
    → IsFileIn Whole bytes (says 0x0400_0000_0000_0000 3) words → ⊥)
    × (IsFileIn Whole bytes (says 1 0) (0 ∷ []) → ⊥)
    × (IsFileIn Whole bytes (says 1 0x1_0000_0000) (0 ∷ []) → ⊥)
    × (IsFileIn Lines bytes (says 1 3) (0 ∷ []) → ⊥)
no_file bytes words = (
  λ is. omega (arith, is.count),
  λ is. omega (arith, is.shape.some_words),
  λ many is. omega (arith, many, is.shape.few_words),
  λ is. omega (arith, is.shape.some_hashes),
  λ is. omega (arith, is.shape.few_hashes),
  λ is. omega (arith, is.whole),
)

-- a reader gave the file of the line and is at its end: no byte is left, and it gave none more
reads : ReadsParts Lines (Some line_file) (Some []) line_head line_words
    × (ReadsParts Lines (Some (line_file ++ 0 ∷ [])) (Some (0 ∷ [])) line_head line_words → ⊥)
    × (ReadsParts Whole (Some (worked ++ 0 ∷ [])) (Some []) its_head word → ⊥)
reads = (
  record { bytes = line_file; taken = refl; is_file = is_file-lines; end = refl },
  λ is. cc (is.end),
  λ is. differs (worked ++ 0 ∷ []) length (λ same. omega (arith, same))
      (λ same. omega (arith, same))
      (subst (λ l. IsFileIn Whole l its_head word) (sym (is.taken ∙ append-nil is.bytes))
      is.is_file),
)

-- a writer took the worked file in lines, which isn't that of its words without lines
writes-lines : WritesParts Lines (Some (7 ∷ [])) (Some (7 ∷ line_file)) line_head line_words
    × (WritesParts Whole (Some []) (Some line_file) line_head line_words → ⊥)
writes-lines = (
  record { bytes = line_file; added = refl; is_file = is_file-lines },
  λ is.
      is_file-whole line_words
      (subst (λ l. IsFileIn Whole l line_head line_words) (sym is.added) is.is_file),
)
