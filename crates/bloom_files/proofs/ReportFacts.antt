-- Which errors may be reported about a file: cases that hold, and the nearest that don't. The files
-- are those of `Cases`.
use Rattle.std.proofs.Common.{◌≡◌, ◌∙◌, ℕ, List, [], ◌∷◌, ◌++◌, replicate, None, Some, refl, sym, subst, arith, append-nil, inl, inr}
use Rattle.std.specs.declared.io.ErrorKind.TheVariants as kind
use Rattle.bloom_files.proofs.Common.{sip, start, round, absorb, answer, whole_words, rest, NotAFilter, Version, HashCount, EmptyWords, TooManyWords, Cut, TooLong, Reserved, Blocked, NotBlocked, PartOfALine, Seal, Memory, Input, Whole, Lines}
use Rattle.bloom_files.specs.FileCodes.{file_code_of}
use Rattle.bloom_files.specs.FileLayouts.{IsReadIn, IsRefusedIn}
use Rattle.bloom_files.specs.FileReads.{FailsEarly, IsUndecided}
use Rattle.bloom_files.proofs.Cases.{first, head_with, its_word, low, worked}

-- the number of each refusal
codes : (file_code_of EmptyWords ≡ 2)
    × (file_code_of TooManyWords ≡ 3)
    × (file_code_of Memory ≡ 6)
    × (file_code_of HashCount ≡ 7)
    × (file_code_of NotAFilter ≡ 9)
    × (file_code_of Version ≡ 10)
    × (file_code_of Cut ≡ 11)
    × (file_code_of TooLong ≡ 12)
    × (file_code_of Reserved ≡ 13)
    × (file_code_of Seal ≡ 14)
    × (file_code_of (Input kind.BrokenPipe) ≡ 15)
    × (file_code_of PartOfALine ≡ 16)
    × (file_code_of Blocked ≡ 17)
    × (file_code_of NotBlocked ≡ 18)
codes = (refl, refl, refl, refl, refl, refl, refl, refl, refl, refl, refl, refl, refl, refl)

-- of bytes the refusal is reported, and out of memory where there is none: a file that is cut is
-- neither accepted nor refused for memory, and a good one isn't refused as cut
refused : IsRefusedIn Whole first (Some Cut)
    × IsRefusedIn Whole worked (Some Memory)
    × IsRefusedIn Whole worked None
    × (IsRefusedIn Whole first None → ⊥)
    × (IsRefusedIn Whole first (Some Memory) → ⊥)
    × (IsRefusedIn Whole worked (Some Cut) → ⊥)
    × (IsRefusedIn Lines worked None → ⊥)
unfolding sip start round absorb answer whole_words rest
refused = (
  inl refl,
  inr (refl, refl),
  inl refl,
  λ is. elim is [ inl same ↦ cc same | inr memory ↦ cc (memory.0) ],
  λ is. elim is [ inl same ↦ cc same | inr memory ↦ cc (memory.1) ],
  λ is. elim is [ inl same ↦ cc same | inr memory ↦ cc (memory.0) ],
  λ is. elim is [ inl same ↦ cc same | inr memory ↦ cc (memory.0) ],
)

-- of a reader out of memory may be reported before it is found that the file is cut, and a failed
-- read at any time; but no filter is reported before memory, and a file that is cut isn't accepted
read : IsReadIn Whole first (Some Cut)
    × IsReadIn Whole first (Some Memory)
    × IsReadIn Whole [] (Some (Input kind.BrokenPipe))
    × (IsReadIn Whole [] (Some Memory) → ⊥)
    × (IsReadIn Whole first None → ⊥)
unfolding whole_words
read = (
  inl refl,
  inr (inl (refl, refl)),
  inr (inr (kind.BrokenPipe, refl)),
  λ is. elim is [
    | inl same ↦ cc same
    | inr others ↦ elim others [ inl memory ↦ cc (memory.1) | inr input ↦ cc (input.1) ]
  ],
  λ is. elim is [
    | inl same ↦ cc same
    | inr others ↦ elim others [ inl memory ↦ cc (memory.0) | inr input ↦ cc (input.1) ]
  ],
)

-- a head of three hashes and one word, and one with another first byte
abbrev head : List ℕ
head = head_with (low 0) (low 0) (low 0)

abbrev other : List ℕ
other = 70 ∷ 98 ∷ 108 ∷ 111 ∷ 111 ∷ 109 ∷ 0 ∷ 49 ∷ replicate 56 0

-- these bytes decide a refusal
decided : (IsUndecided other → ⊥) × (IsUndecided (head ++ its_word ++ 0 ∷ []) → ⊥)
unfolding whole_words
decided = (
  λ is. elim is [ inl part ↦ omega (arith, part) | inr whole ↦ cc (whole.0) ],
  λ is. elim is [ inl part ↦ omega (arith, part) | inr whole ↦ omega (arith, whole.1) ],
)

-- a failed read is reported behind a part of a head, and behind all words of a head that isn't
-- refused; not behind a byte more, nor behind a head that is. Another error may come there
early : FailsEarly (Some (replicate 63 0 ++ 1 ∷ [])) (Some (1 ∷ [])) (Input kind.BrokenPipe)
    × FailsEarly (Some (head ++ its_word)) (Some []) (Input kind.BrokenPipe)
    × (FailsEarly (Some (head ++ its_word ++ 0 ∷ [])) (Some []) (Input kind.BrokenPipe) → ⊥)
    × (FailsEarly (Some other) (Some []) (Input kind.BrokenPipe) → ⊥)
    × FailsEarly (Some other) (Some []) Cut
unfolding whole_words
early = (
  λ kind is. record { given = replicate 63 0; taken = refl; undecided = inl (omega arith) },
  λ kind is.
      record { given = head ++ its_word; taken = refl; undecided = inr (refl, omega arith) },
  λ fails. (let is = fails kind.BrokenPipe refl in
      decided.1 (subst IsUndecided (sym (is.taken ∙ append-nil is.given)) is.undecided)),
  λ fails. (let is = fails kind.BrokenPipe refl in
      decided.0 (subst IsUndecided (sym (is.taken ∙ append-nil is.given)) is.undecided)),
  λ kind is. cc,
)
