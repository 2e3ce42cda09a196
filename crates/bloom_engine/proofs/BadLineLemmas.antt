-- The first line that isn't good.
use Rattle.std.proofs.Common.{◌≡◌, ℕ, ◌<◌, Bool, true, false, cond, eqb, leb, List, [], ◌∷◌, ◌++◌, length, map, Option, Some, None, IfSome, refl, sym, ◌∙◌, ap, append_assoc, append-nil, length-append, arith, inl, inr, ◌⊎◌, subst}
use Rattle.bloom_engine.proofs.Common.{prepend_known, and_left, and_right, cond-false, lt-leb, Line, NextCommand, IsReadUpTo}
use Rattle.bloom_engine.specs.declared.engine.commands.Next.TheVariants as next
use Rattle.lines.specs.Lines.{lines_of, has_no_end_by, IsEndedBy}
use Rattle.lines.proofs.LineLemmas.{lines_by-front}
use Rattle.lines.proofs.TakenLemmas.{nil-front, ended-before}
use Rattle.bloom_engine.specs.Lines.{line_of, longest_line, number_of, is_number, value_of, command_with_number}
use Rattle.bloom_engine.proofs.TakenLemmas.{TakesGood}

-- no line is good that is longer than the longest
line_of-long : (line : List ℕ) → longest_line < length line → line_of line ≡ None
unfolding line_of number_of
line_of-long [] long = absurd (omega arith)
line_of-long (letter ∷ []) long = absurd (omega arith)
line_of-long (letter ∷ (space ∷ text)) long =
    let many : leb (length text) 20 ≡ false = lt-leb (length text) 20 (omega arith) in
    let no_number : is_number text ≡ false =
    and_left _ _ (and_left _ _ (and_right (leb 1 (length text)) _ many)) in
    ap (λ o. cond (eqb space 32) (command_with_number letter o) None)
    (cond-false (is_number text) (Some (value_of text)) None no_number)
    ∙ same (eqb space 32)
  where
    same : (b : Bool) → cond {A = Option Line} b None None ≡ None
    same true = refl
    same false = refl

-- a line that was taken is the first of what was left
first-line : (taken rest text : List ℕ) → lines_of taken ≡ text ∷ []
    → IsEndedBy 10 taken ⊎ (rest ≡ [])
    → (later : List (List ℕ)) × (lines_of (taken ++ rest) ≡ text ∷ later)
first-line taken rest text is (inl ended) =
    (lines_of rest, ended rest ∙ ap (λ l. l ++ lines_of rest) is)
first-line taken rest text is (inr none) =
    ([], ap lines_of (ap (λ l. taken ++ l) none ∙ append-nil taken) ∙ is)

-- the good lines before, what was left after them, what was taken of it, the block, and what the
-- reader has left
module _ (before left taken block rest : List ℕ) (lines : List Line)
    (all_good : map line_of (lines_of before) ≡ map Some lines)
    (ended : IsEndedBy 10 before) (cut : left ≡ taken ++ (block ++ rest)) where
  -- what was read of the input
  gave : before ++ left ≡ (before ++ (taken ++ block)) ++ rest
  gave =
      ap (λ l. before ++ l) (cut ∙ sym (append_assoc taken block rest))
      ∙ sym (append_assoc before (taken ++ block) rest)

  -- the first line that isn't good, in all bytes and in those that the reader gave
  upto-line : (bad seen : List ℕ) (later behind : List (List ℕ))
      → lines_of (taken ++ (block ++ rest)) ≡ bad ∷ later
      → lines_of (taken ++ block) ≡ seen ∷ behind → line_of bad ≡ None
      → (seen ≡ bad) ⊎ (longest_line < length seen)
      → IsReadUpTo (before ++ left) (Some (before ++ left)) (Some rest) lines
  upto-line bad seen later behind whole given is_bad enough = record {
    good = lines_of before;
    bad = bad;
    later = later;
    cut = ended left ∙ ap (λ l. lines_of before ++ lines_of l) cut
        ∙ ap (λ l. lines_of before ++ l) whole;
    all_good = all_good;
    is_bad = is_bad;
    given = before ++ (taken ++ block);
    gave = gave;
    reached = record {
      seen = seen;
      later = behind;
      cut = ended (taken ++ block) ∙ ap (λ l. lines_of before ++ l) given;
      enough = enough;
    };
  }

  -- a short line that isn't good
  upto-short : (text : List ℕ) → lines_of taken ≡ text ∷ []
      → IsEndedBy 10 taken ⊎ (block ++ rest ≡ []) → line_of text ≡ None
      → IsReadUpTo (before ++ left) (Some (before ++ left)) (Some rest) lines
  upto-short text is last bad =
      let whole = first-line taken (block ++ rest) text is last in
      let seen = first-line taken block text is (within last) in
      upto-line text text whole.0 seen.0 whole.1 seen.1 bad (inl refl)
    where
      within : IsEndedBy 10 taken ⊎ (block ++ rest ≡ []) → IsEndedBy 10 taken ⊎ (block ≡ [])
      within (inl e) = inl e
      within (inr none) = inr (nil-front block rest none)

  -- a line that is too long
  upto-long : has_no_end_by 10 taken ≡ true → longest_line < length taken
      → IsReadUpTo (before ++ left) (Some (before ++ left)) (Some rest) lines
  upto-long inside long =
      let some : 0 < length taken = omega arith in
      let whole = lines_by-front 10 taken (block ++ rest) inside some in
      let seen = lines_by-front 10 taken block inside some in
      upto-line (taken ++ whole.0) (taken ++ seen.0) whole.1 seen.1 whole.2 seen.2
      (line_of-long (taken ++ whole.0) (simp length-append (omega arith)))
      (inr (simp length-append (omega arith)))

-- line n isn't good, after these good lines
pub upto : (read mid left : Option (List ℕ)) (block : List ℕ) (lines : List Line)
    → TakesGood read mid lines
    → NextCommand mid (prepend_known block left) next.Bad
    → IfSome read (λ bytes. IsReadUpTo bytes read left lines)
upto None mid left block lines p q = tt
upto (Some x) None left block lines p q = absurd p.taken
upto (Some x) (Some y) None block lines p (inl q) = absurd q.takes.cut
upto (Some x) (Some y) None block lines p (inr q) = absurd q.cut
upto (Some x) (Some y) (Some z) block lines p (inl q) =
    let before = p.taken in
    let took = q.takes in
    let good = ap (map line_of) before.are_lines ∙ p.good in
    let ended =
    ended-before 10 before.taken y took.taken (block ++ z) q.text before.last took.cut
    took.is_line in
    subst (λ bytes. IsReadUpTo bytes (Some bytes) (Some z) lines) (sym before.cut)
    (upto-short before.taken y took.taken block z lines good ended took.cut q.text took.is_line
    took.last q.asks)
upto (Some x) (Some y) (Some z) block lines p (inr q) =
    let some : y ≡ [] → ⊥ = λ none.
    let nothing : q.taken ≡ [] = nil-front q.taken (block ++ z) (sym q.cut ∙ none) in
    omega (arith, q.long, ap length nothing) in
    let before = p.taken in
    let good = ap (map line_of) before.are_lines ∙ p.good in
    subst (λ bytes. IsReadUpTo bytes (Some bytes) (Some z) lines) (sym before.cut)
    (upto-long before.taken y q.taken block z lines good (ended before.last some) q.cut q.inside
    q.long)
  where
    ended : {A B : Type 0} → A ⊎ B → (B → ⊥) → A
    ended (inl a) none = a
    ended (inr b) none = absurd (none b)
