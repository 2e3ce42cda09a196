-- Lines taken, one after the other, where the byte `end` ends a line.
use Rattle.std.proofs.Common.{◌≡◌, ℕ, ◌<◌, List, [], ◌∷◌, ◌++◌, length, length-append, Option, Some, None, refl, sym, ◌∙◌, ap, append_assoc, append-nil, arith, inl, inr, ◌⊎◌}
use Rattle.std.specs.Io.KnownBytes.{prepend_known}
use Rattle.lines.specs.Lines.{lines_by, IsEndedBy}
use Rattle.lines.specs.Reading.{TakesLineBy, TakesLongBy, Ends, IsReadWholeBy, IsReadFromBy, IsReadToLongBy}
use Rattle.lines.proofs.LineLemmas.{lines_by-nil, lines_by-front, IsEnded-nil, IsEnded-append}

-- these lines were taken, and the last of them had its end or nothing is left
pub record HasTakenLinesBy (end : ℕ) (old new : List ℕ) (lines : List (List ℕ)) : Type 0 where
  pub taken : List ℕ
  pub cut : old ≡ taken ++ new
  pub are_lines : lines_by end taken ≡ lines
  pub last : IsEndedBy end taken ⊎ (new ≡ [])

-- these lines were taken, for a reader that may not tell its bytes
abbrev pub TakesLinesBy : ℕ → Option (List ℕ) → Option (List ℕ) → List (List ℕ) → Type 0
TakesLinesBy end None new lines = Unit {0}
TakesLinesBy end (Some old) None lines = ⊥
TakesLinesBy end (Some old) (Some new) lines = HasTakenLinesBy end old new lines

-- what is joined to nothing is nothing
pub nil-front : (xs ys : List ℕ) → xs ++ ys ≡ [] → xs ≡ []
nil-front [] ys none = refl
nil-front (x ∷ xs) ys none = cc

-- what nothing is joined with is nothing, too
pub nil-back : (xs ys : List ℕ) → xs ++ ys ≡ [] → ys ≡ []
nil-back [] ys none = none
nil-back (x ∷ xs) ys none = cc

-- what was taken last is a line, so something was left before it
pub not-at-end : (end : ℕ) (old taken new text : List ℕ) → old ≡ taken ++ new
    → lines_by end taken ≡ text ∷ [] → old ≡ [] → ⊥
not-at-end end old taken new text cut is none =
    let nothing : taken ≡ [] = nil-front taken new (sym cut ∙ none) in
    let same : text ∷ [] ≡ [] = sym is ∙ ap (lines_by end) nothing ∙ lines_by-nil end in
    cc

-- the lines before a line that was taken had their ends
pub ended-before : (end : ℕ) (before old taken new text : List ℕ)
    → IsEndedBy end before ⊎ (old ≡ []) → old ≡ taken ++ new → lines_by end taken ≡ text ∷ []
    → IsEndedBy end before
ended-before end before old taken new text (inl ended) cut is = ended
ended-before end before old taken new text (inr none) cut is =
    absurd (not-at-end end old taken new text cut is none)

-- no line was taken yet
pub TakesLines-nil : (end : ℕ) (block : List ℕ) (read : Option (List ℕ)) → block ≡ []
    → TakesLinesBy end read (prepend_known block read) []
TakesLines-nil end block None empty = tt
TakesLines-nil end block (Some x) empty = record {
  taken = [];
  cut = ap (λ b. b ++ x) (sym empty);
  are_lines = lines_by-nil end;
  last = inl (IsEnded-nil end);
}

-- one more line was taken
pub TakesLines-more : (end : ℕ) (a b c : Option (List ℕ)) (lines : List (List ℕ)) (line : List ℕ)
    → TakesLinesBy end a b lines → TakesLineBy end b c line
    → TakesLinesBy end a c (lines ++ line ∷ [])
TakesLines-more end None b c lines line p q = tt
TakesLines-more end (Some x) None c lines line p q = absurd p
TakesLines-more end (Some x) (Some y) None lines line p q = absurd q.cut
TakesLines-more end (Some x) (Some y) (Some z) lines line p q =
    let before = p.taken in
    let taken = q.taken in
    let ended : IsEndedBy end before =
    ended-before end before y taken z line p.last q.cut q.is_line in
    record {
      taken = before ++ taken;
      cut = p.cut ∙ ap (λ l. before ++ l) q.cut ∙ sym (append_assoc before taken z);
      are_lines =
          ended taken ∙ ap (λ l. lines_by end before ++ l) q.is_line
          ∙ ap (λ l. l ++ line ∷ []) p.are_lines;
      last = either before taken z q.last ended;
    }
  where
    either : (before taken z : List ℕ) → IsEndedBy end taken ⊎ (z ≡ []) → IsEndedBy end before
        → IsEndedBy end (before ++ taken) ⊎ (z ≡ [])
    either before taken z (inl last) ended = inl (IsEnded-append end before taken ended last)
    either before taken z (inr none) ended = inr none

-- nothing is left of the block and of the reader
pub IsReadWhole-from : (end : ℕ) (read mid left : Option (List ℕ)) (block : List ℕ)
    (lines : List (List ℕ))
    → TakesLinesBy end read mid lines → Ends mid (prepend_known block left)
    → IsReadWholeBy end read left lines
IsReadWhole-from end None mid left block lines p q = tt
IsReadWhole-from end (Some x) None left block lines p q = absurd p
IsReadWhole-from end (Some x) (Some y) None block lines p q = absurd q.nothing
IsReadWhole-from end (Some x) (Some y) (Some z) block lines p q =
    let none : block ++ z ≡ [] = q.end in
    let rest : y ≡ [] = q.nothing ∙ none in
    let all : x ≡ p.taken = p.cut ∙ ap (λ l. p.taken ++ l) rest ∙ append-nil p.taken in
    record {
      are_lines = ap (lines_by end) all ∙ p.are_lines;
      none_left = ap Some (nil-back block z none);
    }

-- lines that were taken are the first ones
pub IsReadFrom-taken : (end : ℕ) (read mid : Option (List ℕ)) (lines : List (List ℕ))
    → TakesLinesBy end read mid lines → IsReadFromBy end read lines
IsReadFrom-taken end None mid lines p = tt
IsReadFrom-taken end (Some x) None lines p = absurd p
IsReadFrom-taken end (Some x) (Some y) lines p = at p.last
  where
    at : IsEndedBy end p.taken ⊎ (y ≡ []) → IsReadFromBy end (Some x) lines
    at (inl ended) = record {
      later = lines_by end y;
      cut = ap (lines_by end) p.cut ∙ ended y ∙ ap (λ l. l ++ lines_by end y) p.are_lines;
    }
    at (inr none) = record {
      later = [];
      cut =
          ap (lines_by end) (p.cut ∙ ap (λ l. p.taken ++ l) none ∙ append-nil p.taken) ∙ p.are_lines
          ∙ sym (append-nil lines);
    }

-- the next line is too long
pub IsReadToLong-from : (end : ℕ) (longest : ℕ) (read mid left : Option (List ℕ))
    (lines : List (List ℕ)) → TakesLinesBy end read mid lines → TakesLongBy end longest mid left
    → IsReadToLongBy end longest read lines
IsReadToLong-from end longest None mid left lines p q = tt
IsReadToLong-from end longest (Some x) None left lines p q = absurd p
IsReadToLong-from end longest (Some x) (Some y) None lines p q = absurd q.cut
IsReadToLong-from end longest (Some x) (Some y) (Some z) lines p q =
    let some : 0 < length q.taken = omega (arith, q.long) in
    let found = lines_by-front end q.taken z q.inside some in
    let rest : lines_by end y ≡ (q.taken ++ found.0) ∷ found.1 =
    ap (lines_by end) q.cut ∙ found.2 in
    record {
      long = q.taken ++ found.0;
      later = found.1;
      cut =
          ap (lines_by end) p.cut ∙ (ended p.last) y ∙ ap (λ l. l ++ lines_by end y) p.are_lines
          ∙ ap (λ l. lines ++ l) rest;
      is_long = simp length-append (omega (arith, q.long));
    }
  where
    ended : IsEndedBy end p.taken ⊎ (y ≡ []) → IsEndedBy end p.taken
    ended (inl is) = is
    ended (inr none) =
        let nothing : q.taken ≡ [] = nil-front q.taken z (sym q.cut ∙ none) in
        absurd (omega (arith, q.long, ap length nothing))
