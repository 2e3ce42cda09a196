-- What serving promises of one and two lines: for each definition that public clauses cite a case
-- that holds and cases as near as can be that don't.
use Rattle.std.proofs.Common.{◌≡◌, ℕ, ◌+◌, List, [], ◌∷◌, ◌++◌, inl, inr, length, map, replicate, Option, Some, None, length-append, refl, sym, ◌∙◌, ap, arith}
use Rattle.bloom_engine.proofs.Common.{codes, Line, Insert, lines_by, line_of, number_of}
use Rattle.bloom_engine.specs.Served.{AreAllGood, Reaches, IsReadUpTo, ServedAll, ServedUpTo}
use Rattle.bloom_engine.proofs.Cases.{zeros, with_one, carried, carried-text, carried-bits}

-- of one good line no other is carried out
good-one : (t : List ℕ) (lines : List Line) → line_of t ≡ Some (Insert 1)
    → map line_of (t ∷ []) ≡ map Some lines → lines ≡ Insert 1 ∷ []
good-one t [] is all =
    let none : ◌≡◌ {A = List (Option Line)} (line_of t ∷ []) [] = all in cc
good-one t (l ∷ []) is all =
    let same : ◌≡◌ {A = List (Option Line)} (Some (Insert 1) ∷ []) (Some l ∷ []) =
    rw is at all in
    cc
good-one t (l ∷ (m ∷ ls)) is all =
    let none : ◌≡◌ {A = List (Option Line)} (line_of t ∷ []) (Some l ∷ Some m ∷ map Some ls) =
    all in
    cc

-- a bad line isn't good
good-none : (t : List ℕ) (lines : List Line) → line_of t ≡ None
    → map line_of (t ∷ []) ≡ map Some lines → ⊥
good-none t [] is all =
    let none : ◌≡◌ {A = List (Option Line)} (line_of t ∷ []) [] = all in cc
good-none t (l ∷ ls) is all =
    let bad : ◌≡◌ {A = List (Option Line)} (None ∷ []) (Some l ∷ map Some ls) = rw is at all in cc

is_good : line_of (codes "i 1") ≡ Some (Insert 1)
unfolding line_of number_of
is_good = refl

is_bad : line_of (codes "x") ≡ None
unfolding line_of
is_bad = refl

-- the one line of these bytes was carried out
whole-lines : (left : Option (List ℕ)) (lines : List Line)
    → AreAllGood (codes "i 1\n") left lines → lines ≡ Insert 1 ∷ []
unfolding lines_by
whole-lines left lines is = good-one (codes "i 1") lines is_good is.good

-- each line was good and its text was written: no other text, no byte left, and no bad line
served_all-cases : ServedAll (Some (codes "i 1\n")) (Some []) zeros with_one (Some [])
    (Some (codes "false\n"))
    × (ServedAll (Some (codes "i 1\n")) (Some []) zeros with_one (Some []) (Some (codes "true\n"))
    → ⊥)
    × (ServedAll (Some (codes "i 1\n")) (Some []) zeros zeros (Some []) (Some (codes "false\n"))
    → ⊥)
    × (ServedAll (Some (codes "i 1\n")) (Some (10 ∷ [])) zeros with_one (Some [])
    (Some (codes "false\n")) → ⊥)
    × (ServedAll (Some (codes "x\n")) (Some []) zeros zeros (Some []) (Some []) → ⊥)
unfolding lines_by
served_all-cases = (
  record {
    lines = Insert 1 ∷ [];
    carried = carried;
    whole = record { good = ap (λ l. l ∷ []) is_good; none_left = refl };
  },
  λ did. carried-text did.lines (whole-lines _ did.lines did.whole) did.carried,
  λ did. carried-bits did.lines (whole-lines _ did.lines did.whole) did.carried,
  λ did.
      let left : ◌≡◌ {A = Option (List ℕ)} (Some (10 ∷ [])) (Some []) = did.whole.none_left in
      cc,
  λ did. good-none (codes "x") did.lines is_bad did.whole.good,
)

-- the good lines before the bad one are this one alone
one-line : (good : List (List ℕ)) (bad : List ℕ) (later : List (List ℕ)) (lines : List Line)
    → codes "i 1" ∷ codes "x" ∷ [] ≡ good ++ bad ∷ later → map line_of good ≡ map Some lines
    → line_of bad ≡ None → lines ≡ Insert 1 ∷ []
one-line [] bad later lines cut all none =
    let first : codes "i 1" ≡ bad = cc in
    let wrong : ◌≡◌ {A = Option Line} (Some (Insert 1)) None =
    sym is_good ∙ ap line_of first ∙ none in
    cc
one-line (g ∷ []) bad later lines cut all none =
    let first : codes "i 1" ≡ g = cc in
    good-one g lines (sym (ap line_of first) ∙ is_good) all
one-line (g ∷ (h ∷ [])) bad later lines cut all none =
    let wrong : ◌≡◌ {A = List (List ℕ)} (codes "i 1" ∷ codes "x" ∷ []) (g ∷ h ∷ bad ∷ later) = cut
    in
    cc
one-line (g ∷ (h ∷ (i ∷ gs))) bad later lines cut all none =
    let wrong : ◌≡◌ {A = List (List ℕ)} (codes "i 1" ∷ codes "x" ∷ [])
    (g ∷ h ∷ i ∷ (gs ++ bad ∷ later)) = cut in
    cc

upto-lines : (left : Option (List ℕ)) (lines : List Line)
    → IsReadUpTo (codes "i 1\nx\n") (Some (codes "i 1\nx\n")) left lines → lines ≡ Insert 1 ∷ []
unfolding lines_by
upto-lines left lines is = one-line is.good is.bad is.later lines is.cut is.all_good is.is_bad

-- a reader that still has all its bytes was read up to no line
unread : (lines : List Line) → IsReadUpTo (codes "i 1\nx\n") (Some (codes "i 1\nx\n"))
    (Some (codes "i 1\nx\n")) lines → ⊥
unfolding lines_by
unread lines is = of is.given is.gave is.reached
  where
    of : (given : List ℕ) → codes "i 1\nx\n" ≡ given ++ codes "i 1\nx\n"
        → Reaches given is.good is.bad → ⊥
    of [] gave reached =
        let none : 0 ≡ length is.good + length (reached.seen ∷ reached.later) =
        ap length reached.cut ∙ length-append is.good (reached.seen ∷ reached.later) in
        omega (arith, none)
    of (b ∷ given) gave reached =
        let count : 6 ≡ length (b ∷ given) + 6 =
        ap length gave ∙ length-append (b ∷ given) (codes "i 1\nx\n") in
        omega (arith, count)

-- 22 bytes of a longer bad line aren't enough
reaches-short : Reaches (replicate 22 49) [] (replicate 30 49) → ⊥
unfolding lines_by
reaches-short is =
    let line : replicate 22 49 ∷ [] ≡ is.seen ∷ is.later = is.cut in
    let seen : replicate 22 49 ≡ is.seen = cc in
    let count : 22 ≡ length is.seen = ap length seen in
    elim is.enough [
      | inl all ↦ (let more : length is.seen ≡ 30 = ap length all in omega (arith, count, more))
      | inr long ↦ omega (arith, count, long)
    ]

-- line 2 is bad, and the first was carried out: no other number, text or filter, and not before the
-- bad line was read, or 23 bytes of it
served_up_to-cases : ServedUpTo 2 (Some (codes "i 1\nx\n")) (Some []) zeros with_one (Some [])
    (Some (codes "false\n"))
    × (ServedUpTo 1 (Some (codes "i 1\nx\n")) (Some []) zeros with_one (Some [])
    (Some (codes "false\n")) → ⊥)
    × (ServedUpTo 2 (Some (codes "i 1\nx\n")) (Some []) zeros with_one (Some [])
    (Some (codes "true\n")) → ⊥)
    × (ServedUpTo 2 (Some (codes "i 1\nx\n")) (Some []) zeros zeros (Some [])
    (Some (codes "false\n")) → ⊥)
    × (ServedUpTo 2 (Some (codes "i 1\nx\n")) (Some (codes "i 1\nx\n")) zeros with_one (Some [])
    (Some (codes "false\n")) → ⊥)
    × (Reaches (replicate 22 49) [] (replicate 30 49) → ⊥)
unfolding lines_by
served_up_to-cases = (
  record {
    lines = Insert 1 ∷ [];
    carried = carried;
    number = refl;
    upto = record {
      good = codes "i 1" ∷ [];
      bad = codes "x";
      later = [];
      cut = refl;
      all_good = ap (λ l. l ∷ []) is_good;
      is_bad = is_bad;
      given = codes "i 1\nx\n";
      gave = refl;
      reached = record { seen = codes "x"; later = []; cut = refl; enough = inl refl };
    };
  },
  λ did. omega (arith, ap length (upto-lines _ did.lines did.upto), did.number),
  λ did. carried-text did.lines (upto-lines _ did.lines did.upto) did.carried,
  λ did. carried-bits did.lines (upto-lines _ did.lines did.upto) did.carried,
  λ did. unread did.lines did.upto,
  reaches-short,
)
