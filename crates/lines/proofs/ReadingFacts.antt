-- What reading lines promises: of each relation cases that hold, and the nearest that don't.
use Rattle.std.proofs.Common.{◌≡◌, ℕ, Bool, true, false, List, [], ◌∷◌, length, length-append, append-nil, get_or, None, Some, refl, sym, ◌∙◌, ap, arith, inl, inr}
use Rattle.std.specs.Prelude.{codes}
use Rattle.std.proofs.lemmas.List.{append_cancel_right}
use Rattle.lines.specs.declared.reader.Next.TheVariants.{End, Line, TooLong}
use Rattle.lines.specs.Filling.{GivesFewer}
use Rattle.lines.specs.Lines.{lines_by, has_no_end_by}
use Rattle.lines.specs.Losing.{LosesPart}
use Rattle.lines.specs.Reading.{Waiting, IsReadToLongBy, IsReadWholeBy, KnowsEnd, NextLineBy, has_next_by, left_of}
use Rattle.lines.proofs.ReadingLemmas.{taken-ended}

-- a reader of lines with these bytes waiting
abbrev waits : Bool → ℕ → List ℕ → Waiting
waits ended longest bytes =
    record { line = []; bytes = bytes; ended = ended; longest = longest }

-- the bytes that wait come before those that the reader has, which may be unknown
left : (left_of (waits false 3 (1 ∷ [])) (Some (2 ∷ [])) ≡ Some (1 ∷ 2 ∷ []))
    × (left_of (waits false 3 (1 ∷ [])) None ≡ None)
left = (refl, refl)

-- a reader that told its end has nothing left; one that didn't may have a byte
knows_end : KnowsEnd true (Some [])
    × (KnowsEnd true (Some (1 ∷ [])) → ⊥)
    × KnowsEnd false (Some (1 ∷ []))
knows_end = (λ _. refl, λ knows. cc (knows refl), λ told. cc (told))

-- the next line is told where its end waits, where more bytes wait than a line may have, or where
-- the input has ended; not by as many bytes as a line may have
has_next : (has_next_by 10 (waits false 3 (codes "a\n")) ≡ true)
    × (has_next_by 10 (waits false 3 (codes "abc")) ≡ false)
    × (has_next_by 10 (waits false 2 (codes "abc")) ≡ true)
    × (has_next_by 10 (waits true 3 []) ≡ true)
    × (has_next_by 0 (waits false 3 (codes "a\n")) ≡ false)
has_next = (refl, refl, refl, refl, refl)

-- a line of three bytes is taken with its end where a line may have three, and not where it may
-- have two, nor without its end, nor is another line told
next_line : NextLineBy 0 3 (Some (97 ∷ 10 ∷ 98 ∷ 0 ∷ 99 ∷ [])) (Some (99 ∷ []))
    (97 ∷ 10 ∷ 98 ∷ []) Line
    × (NextLineBy 0 2 (Some (97 ∷ 10 ∷ 98 ∷ 0 ∷ 99 ∷ [])) (Some (99 ∷ []))
    (97 ∷ 10 ∷ 98 ∷ []) Line → ⊥)
    × (NextLineBy 0 3 (Some (97 ∷ 0 ∷ 99 ∷ [])) (Some (0 ∷ 99 ∷ [])) (97 ∷ []) Line → ⊥)
    × (NextLineBy 0 3 (Some (97 ∷ 98 ∷ 0 ∷ [])) (Some []) (97 ∷ []) Line → ⊥)
unfolding lines_by
next_line = (
  record { takes = taken-ended refl refl; short = omega arith },
  λ is. omega (arith, is.short),
  λ is. (let taken : 97 ∷ [] ≡ is.takes.taken =
      append_cancel_right (97 ∷ []) is.takes.taken (0 ∷ 99 ∷ []) is.takes.cut in
      elim is.takes.last [
        | inl ended ↦ (let cut : lines_by 0 (97 ∷ 0 ∷ 99 ∷ []) ≡ (97 ∷ []) ∷ [] ∷ (99 ∷ []) ∷ [] =
            (rw (sym taken) at ended) (0 ∷ 99 ∷ []) in cc)
        | inr none ↦ (let left : 0 ∷ 99 ∷ [] ≡ [] = none in cc)
      ]),
  λ is. (let taken : 97 ∷ 98 ∷ 0 ∷ [] ≡ is.takes.taken =
      is.takes.cut ∙ append-nil is.takes.taken in
      let line : (97 ∷ 98 ∷ []) ∷ [] ≡ (97 ∷ []) ∷ [] = (rw (sym taken) at is.takes.is_line) in
      omega (arith, ap (λ l. length (get_or l 0 [])) line)),
)

-- the end comes where nothing is left: no byte was taken, and none may be left
next_end : NextLineBy 10 3 (Some []) (Some []) [] End
    × (NextLineBy 10 3 (Some (10 ∷ [])) (Some []) [] End → ⊥)
    × (NextLineBy 10 3 (Some (10 ∷ [])) (Some (10 ∷ [])) [] End → ⊥)
next_end = (
  record { nothing = refl; end = refl },
  λ is. cc (is.nothing),
  λ is. (let left : 10 ∷ [] ≡ [] = is.end in cc),
)

-- a line is too long of which three bytes were taken where a line may have two, and not where it
-- may have three, nor if one of them ends it
next_long : NextLineBy 10 2 (Some (codes "abcd\n")) (Some (codes "d\n")) [] TooLong
    × (NextLineBy 10 3 (Some (codes "abcd\n")) (Some (codes "d\n")) [] TooLong → ⊥)
    × (NextLineBy 10 1 (Some (codes "a\nb")) (Some (codes "b")) [] TooLong → ⊥)
next_long = (
  record { taken = codes "abc"; cut = refl; inside = refl; long = omega arith },
  λ is. (let taken = append_cancel_right (codes "abc") is.taken (codes "d\n") is.cut in
      omega (arith, ap length taken, is.long)),
  λ is. (let taken = append_cancel_right (codes "a\n") is.taken (codes "b") is.cut in
      let inside : has_no_end_by 10 (codes "a\n") ≡ true =
      ap (has_no_end_by 10) taken ∙ is.inside in
      cc),
)

-- after an error the first byte of a line may be lost, and its end may not
loses : LosesPart 10 (Some (codes "ab\nc")) (Some (codes "b\nc"))
    × (LosesPart 10 (Some (codes "a\nc")) (Some (codes "c")) → ⊥)
loses = (
  record { lost = codes "a"; taken = refl; inside = refl },
  λ part. (let lost = append_cancel_right (codes "a\n") part.lost (codes "c") part.taken in
      let inside : has_no_end_by 10 (codes "a\n") ≡ true =
      ap (has_no_end_by 10) lost ∙ part.inside in
      cc),
)

-- after an error two bytes may be lost where there was room for three, and not where for two
fewer : GivesFewer 3 (Some (1 ∷ 2 ∷ 3 ∷ [])) (Some (3 ∷ []))
    × (GivesFewer 2 (Some (1 ∷ 2 ∷ 3 ∷ [])) (Some (3 ∷ [])) → ⊥)
fewer = (
  record { given = 1 ∷ 2 ∷ []; taken = refl; few = omega arith },
  λ is. omega (arith, ap length is.taken ∙ length-append is.given (3 ∷ []), is.few),
)

-- a program that read all lines has left out none, and its reader has no byte left
whole : IsReadWholeBy 10 (Some (codes "a\nb")) (Some []) (codes "a" ∷ codes "b" ∷ [])
    × (IsReadWholeBy 10 (Some (codes "a\nb")) (Some []) (codes "a" ∷ []) → ⊥)
    × (IsReadWholeBy 10 (Some (codes "a\nb")) (Some (98 ∷ [])) (codes "a" ∷ codes "b" ∷ []) → ⊥)
unfolding lines_by
whole = (
  record { are_lines = refl; none_left = refl },
  λ is. (let lines : codes "a" ∷ codes "b" ∷ [] ≡ codes "a" ∷ [] = is.are_lines in cc),
  λ is. cc (is.none_left),
)

-- the line behind the first has four bytes, which are more than three, and not more than four
to_long : IsReadToLongBy 10 3 (Some (codes "a\nbcde\n")) (codes "a" ∷ [])
    × (IsReadToLongBy 10 4 (Some (codes "a\nbcde\n")) (codes "a" ∷ []) → ⊥)
unfolding lines_by
to_long = (
  record { long = codes "bcde"; later = []; cut = refl; is_long = omega arith },
  λ is. (let lines : codes "a" ∷ codes "bcde" ∷ [] ≡ codes "a" ∷ is.long ∷ is.later = is.cut in
      let line : codes "bcde" ≡ is.long = cc in
      omega (arith, ap length line, is.is_long)),
)
