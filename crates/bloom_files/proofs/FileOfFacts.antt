-- The file of a filter, and the laws of files: cases that hold, and the nearest that don't. The
-- files and their filters are those of `Cases`.
use Rattle.std.proofs.Common.{◌≡◌, ℕ, ◌^◌, ◌<◌, List, [], ◌∷◌, ◌++◌, length, get_or, true, false, None, Some, refl, sym, ap, subst, ◌∙◌, append-nil, arith, lit<}
use Rattle.bloom_files.proofs.Common.{All-from_recursion, sip, start, round, absorb, answer, whole_words, rest, Blocked, NotBlocked, Whole, Lines, HasOwnKey, bytes_of, refusal_in}
use Rattle.bloom_parts.specs.declared.hasher.CloneBuildHasher.{CloneBuildHasher}
use Rattle.bloom_parts.specs.declared.hasher.sip.RandomDefaultHasher.{RandomDefaultHasher}
use Rattle.bloom_parts.specs.Chain.{chain}
use Rattle.bloom_parts.specs.Content.{content}
use Rattle.bloom_parts.specs.Places.{are_in}
use Rattle.bloom_plain.specs.Data.{AnswerAlike, DefaultFilter}
use Rattle.bloom_plain.specs.Filter.{contains, anywhere}
use Rattle.bloom_blocked.specs.Blocked.{in_lines}
use Rattle.bloom_files.specs.FilterFiles.{BlockedRefusedLaw, FileLaw, IsFileOf, NotBlockedRefusedLaw, ReadableLaw, ReadsFile, SameFileItemsLaw, WritesFile, file_of}
use Rattle.bloom_files.proofs.Cases.{crabs, filter, line_crabs, line_file, line_words, unsealed, worked}
use Rattle.bloom_files.proofs.LayoutFacts.{differs, is_file-lines, is_file-unsealed, is_file-worked}

-- the file of each filter is the file that the other program wrote
files : (file_of Whole crabs ≡ worked) × (file_of Lines line_crabs ≡ line_file)
unfolding bytes_of sip start round absorb answer whole_words rest
files = (refl, refl)

-- the file of one word, with its seal and without, and that of one line
of-worked : IsFileOf Whole worked crabs
of-worked = record {
  parts = is_file-worked;
  fits = record {
    words = All-from_recursion (λ word. word < 2 ^ 64) crabs.words (omega arith, tt);
    low = omega arith;
    high = omega arith;
  };
}

of-unsealed : IsFileOf Whole unsealed crabs
of-unsealed = record { parts = is_file-unsealed; fits = of-worked.fits }

of-lines : IsFileOf Lines line_file line_crabs
of-lines = record {
  parts = is_file-lines;
  fits = record {
    words = All-from_recursion (λ word. word < 2 ^ 64) line_words
        (lit< tt, (lit< tt, (lit< tt, (lit< tt, (lit< tt, (lit< tt, (lit< tt, (lit< tt, tt))))))));
    low = omega arith;
    high = omega arith;
  };
}

-- a file that goes on isn't that of the filter
of-longer : IsFileOf Whole (worked ++ 0 ∷ []) crabs → ⊥
of-longer is =
    differs _ length (λ same. omega (arith, same)) (λ same. omega (arith, same)) is.parts

-- a file is that of its filter, in the filter's own layout; and no filter has one whose key has 65
-- bits
is_file : IsFileOf Whole worked crabs
    × IsFileOf Lines line_file line_crabs
    × (IsFileOf Whole (worked ++ 0 ∷ []) crabs → ⊥)
    × (IsFileOf Whole line_file line_crabs → ⊥)
    × ((bytes : List ℕ) → IsFileOf Whole bytes (filter (0 ∷ []) 3 0x1_0000_0000_0000_0000 0) → ⊥)
unfolding bytes_of
is_file = (
  of-worked,
  of-lines,
  of-longer,
  λ is. (let wrong : 1 ≡ 0 = ap (λ l. get_or l 48 0) is.parts.is in omega (arith, wrong)),
  λ bytes is. omega (arith, is.fits.low),
)

-- a reader gave the file and is at its end: no byte is left, and it gave none more
reads : ReadsFile Whole (Some worked) (Some []) crabs
    × (ReadsFile Whole (Some (worked ++ 0 ∷ [])) (Some (0 ∷ [])) crabs → ⊥)
    × (ReadsFile Whole (Some (worked ++ 0 ∷ [])) (Some []) crabs → ⊥)
reads = (
  record { bytes = worked; taken = refl; is_file = of-worked; end = refl },
  λ is. cc (is.end),
  λ is. of-longer
      (subst (λ l. IsFileOf Whole l crabs) (sym (is.taken ∙ append-nil is.bytes)) is.is_file),
)

-- a writer that had a byte took the file behind it: the byte isn't gone, and no byte more is there
writes : WritesFile Whole (Some (7 ∷ [])) (Some (7 ∷ worked)) crabs
    × (WritesFile Whole (Some (7 ∷ [])) (Some worked) crabs → ⊥)
    × (WritesFile Whole (Some []) (Some (worked ++ 0 ∷ [])) crabs → ⊥)
writes = (
  record { bytes = worked; added = refl; is_file = of-worked },
  λ is. (let wrong : get_or worked 0 0 ≡ 7 = ap (λ l. get_or l 0 0) is.added in
      omega (arith, wrong)),
  λ is. of-longer (subst (λ l. IsFileOf Whole l crabs) (sym is.added) is.is_file),
)

-- each filter of the file of one word answers as its filter does
file_law-whole : FileLaw → (f : DefaultFilter) → IsFileOf Whole worked f
    → AnswerAlike anywhere crabs f
file_law-whole law f is = law Whole worked crabs f of-worked is

-- each filter of the file of one line has its words and hashes, and contains the hash of `crab`,
-- and not the one after
file_law-lines : FileLaw → (f : DefaultFilter) → IsFileOf Lines line_file f
    → (f.words ≡ line_words) × (f.hashes ≡ 3)
    × (contains in_lines f 0x28b5_d1a8_6888_d657 ≡ true)
    × (contains in_lines f 0x28b5_d1a8_6888_d658 ≡ false)
unfolding content are_in chain
file_law-lines law f is =
    let same = law Lines line_file line_crabs f of-lines is in
    let here : contains in_lines line_crabs 0x28b5_d1a8_6888_d657 ≡ true = refl in
    let none : contains in_lines line_crabs 0x28b5_d1a8_6888_d658 ≡ false = refl in (
      same.words,
      same.hashes,
      same.found 0x28b5_d1a8_6888_d657 ∙ here,
      same.found 0x28b5_d1a8_6888_d658 ∙ none,
    )

-- filters of one file under its key give each item one source hash
items_law : (hash_of : CloneBuildHasher RandomDefaultHasher → ℕ → ℕ) → SameFileItemsLaw hash_of
    → (f g : DefaultFilter) → IsFileOf Lines line_file f → IsFileOf Lines line_file g
    → HasOwnKey f → HasOwnKey g → hash_of g.hasher 8 ≡ hash_of f.hasher 8
items_law hash_of law f g is other own key = law Lines line_file f g is other own key 8

-- neither a file with its seal nor one without is refused
readable_law : ReadableLaw
    → (refusal_in Lines line_file ≡ None) × (refusal_in Whole unsealed ≡ None)
readable_law law =
    (law Lines line_file line_crabs of-lines, law Whole unsealed crabs of-unsealed)

-- where the other layout is read a file is refused by name
refused_laws : BlockedRefusedLaw → NotBlockedRefusedLaw
    → (refusal_in Whole line_file ≡ Some Blocked) × (refusal_in Lines worked ≡ Some NotBlocked)
refused_laws blocked not_blocked =
    (blocked line_file line_crabs of-lines, not_blocked worked crabs of-worked)
