-- Cutting bytes into lines that the byte `end` ends.
use Rattle.std.proofs.Common.{◌≡◌, ◌≢◌, ℕ, ◌<◌, zero, suc, true, false, not, eqb, get_or, List, [], ◌∷◌, ◌++◌, length, refl, sym, ◌∙◌, ap, append_assoc, arith}
use Rattle.std.proofs.lemmas.Bool.{and_parts, and_from, and_left, and_right, ne_eqb, eq-eqb, not-true, cond-false, cond-true}
use Rattle.lines.specs.Lines.{lines_by, onto_first, has_no_end_by, IsEndedBy}

-- no bytes are no lines
pub lines_by-nil : (end : ℕ) → lines_by end [] ≡ []
unfolding lines_by
lines_by-nil end = refl

-- a line with its end, and the lines after it
pub lines_by-ended : (end : ℕ) (line rest : List ℕ) → has_no_end_by end line ≡ true
    → lines_by end (line ++ end ∷ rest) ≡ line ∷ lines_by end rest
unfolding lines_by
lines_by-ended end [] rest inside = cond-true (eqb end end) _ _ (eq-eqb end end refl)
lines_by-ended end (b ∷ line) rest inside =
    let parts = and_parts (not (eqb b end)) (has_no_end_by end line) inside in
    cond-false (eqb b end) _ _ (not-true (eqb b end) parts.0)
    ∙ ap (onto_first b) (lines_by-ended end line rest parts.1)

-- a last line that has no end
pub lines_by-last : (end : ℕ) (line : List ℕ) → has_no_end_by end line ≡ true → 0 < length line
    → lines_by end line ≡ line ∷ []
unfolding lines_by
lines_by-last end [] inside some = absurd (omega arith)
lines_by-last end (b ∷ []) inside some =
    cond-false (eqb b end) _ _ (not-true (eqb b end) (and_parts (not (eqb b end)) true inside).0)
lines_by-last end (b ∷ (d ∷ line)) inside some =
    let parts = and_parts (not (eqb b end)) (has_no_end_by end (d ∷ line)) inside in
    let more : 0 < length (d ∷ line) = omega arith in
    cond-false (eqb b end) _ _ (not-true (eqb b end) parts.0)
    ∙ ap (onto_first b) (lines_by-last end (d ∷ line) parts.1 more)

-- a byte put to the front begins the first line
onto : (b : ℕ) (lines : List (List ℕ))
    → (line : List ℕ) × (later : List (List ℕ)) × (onto_first b lines ≡ (b ∷ line) ∷ later)
onto b [] = ([], [], refl)
onto b (line ∷ later) = (line, later, refl)

-- bytes that end no line are the front of the first
pub lines_by-front : (end : ℕ) (front rest : List ℕ) → has_no_end_by end front ≡ true
    → 0 < length front → (line : List ℕ) × (later : List (List ℕ))
    × (lines_by end (front ++ rest) ≡ (front ++ line) ∷ later)
unfolding lines_by
lines_by-front end [] rest inside some = absurd (omega arith)
lines_by-front end (b ∷ []) rest inside some =
    let first = onto b (lines_by end rest) in
    let other = (and_parts (not (eqb b end)) true inside).0 in (
      first.0,
      first.1,
      cond-false (eqb b end) _ _ (not-true (eqb b end) other) ∙ first.2,
    )
lines_by-front end (b ∷ (d ∷ front)) rest inside some =
    let parts = and_parts (not (eqb b end)) (has_no_end_by end (d ∷ front)) inside in
    let more : 0 < length (d ∷ front) = omega arith in
    let found = lines_by-front end (d ∷ front) rest parts.1 more in (
      found.0,
      found.1,
      cond-false (eqb b end) _ _ (not-true (eqb b end) parts.0) ∙ ap (onto_first b) found.2,
    )

-- one more byte that ends no line
pub has_no_end-more : {end : ℕ} (line : List ℕ) (b : ℕ) → has_no_end_by end line ≡ true
    → b ≢ end → has_no_end_by end (line ++ b ∷ []) ≡ true
has_no_end-more {end} [] b inside other =
    and_from (not (eqb b end)) true (ap not (ne_eqb b end other)) refl
has_no_end-more {end} (d ∷ line) b inside other =
    let parts = and_parts (not (eqb d end)) (has_no_end_by end line) inside in
    and_from (not (eqb d end)) (has_no_end_by end (line ++ b ∷ []))
    parts.0 (has_no_end-more line b parts.1 other)

-- bytes one of which ends a line
pub has_no_end-not : {end : ℕ} (bytes : List ℕ) (n : ℕ) → n < length bytes
    → get_or bytes n 0 ≡ end → has_no_end_by end bytes ≡ false
has_no_end-not [] n within is = absurd (omega (arith, within))
has_no_end-not {end} (b ∷ bytes) zero within is =
    and_left (not (eqb b end)) (has_no_end_by end bytes)
    (ap not (eq-eqb b end is))
has_no_end-not {end} (b ∷ bytes) (suc n) within is =
    and_right (not (eqb b end)) (has_no_end_by end bytes)
    (has_no_end-not bytes n (omega (arith, within)) is)

-- bytes one after the other that end no line
pub has_no_end-append : (end : ℕ) (xs ys : List ℕ) → has_no_end_by end xs ≡ true
    → has_no_end_by end ys ≡ true → has_no_end_by end (xs ++ ys) ≡ true
has_no_end-append end [] ys first second = second
has_no_end-append end (b ∷ xs) ys first second =
    let parts = and_parts (not (eqb b end)) (has_no_end_by end xs) first in
    and_from (not (eqb b end)) (has_no_end_by end (xs ++ ys))
    parts.0 (has_no_end-append end xs ys parts.1 second)

-- after no bytes lines begin anew
pub IsEnded-nil : (end : ℕ) → IsEndedBy end []
IsEnded-nil end rest = sym (ap (λ l. l ++ lines_by end rest) (lines_by-nil end))

-- after a line with its end too
pub IsEnded-line : (end : ℕ) (line : List ℕ) → has_no_end_by end line ≡ true
    → IsEndedBy end (line ++ end ∷ [])
IsEnded-line end line inside rest =
    let alone : lines_by end (line ++ end ∷ []) ≡ line ∷ [] =
    lines_by-ended end line [] inside ∙ ap (λ l. line ∷ l) (lines_by-nil end) in
    ap (lines_by end) (append_assoc line (end ∷ []) rest) ∙ lines_by-ended end line rest inside
    ∙ sym (ap (λ l. l ++ lines_by end rest) alone)

-- two parts after each of which lines begin anew
pub IsEnded-append : (end : ℕ) (a b : List ℕ) → IsEndedBy end a → IsEndedBy end b
    → IsEndedBy end (a ++ b)
IsEnded-append end a b first second rest =
    ap (lines_by end) (append_assoc a b rest) ∙ first (b ++ rest)
    ∙ ap (λ l. lines_by end a ++ l) (second rest)
    ∙ sym (append_assoc (lines_by end a) (lines_by end b) (lines_by end rest))
    ∙ ap (λ l. l ++ lines_by end rest) (sym (first b))
