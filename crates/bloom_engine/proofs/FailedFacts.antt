-- What serving promises where a read or a write fails: for each definition that public clauses cite
-- a case that holds and the nearest that doesn't.
use Rattle.std.proofs.Common.{◌≡◌, ℕ, List, [], ◌∷◌, ◌++◌, map, Option, Some, refl, ◌∙◌, ap}
use Rattle.bloom_engine.proofs.Common.{codes, both_ways, content, state_after, Line, Insert, lines_by, line_of, number_of, operations, Applied, AreFirstGood, ServedBefore, ServedSome}
use Rattle.bloom_engine.proofs.Cases.{zeros, with_one, carried}

-- where nothing was read no line was carried out
no-lines : (lines : List Line) → AreFirstGood (Some []) lines → lines ≡ []
unfolding lines_by
no-lines lines is = of is.texts lines is.first.later is.first.cut is.good
  where
    of : (texts : List (List ℕ)) (lines : List Line) (later : List (List ℕ))
        → ◌≡◌ {A = List (List ℕ)} [] (texts ++ later) → map line_of texts ≡ map Some lines
        → lines ≡ []
    of [] [] later cut good = refl
    of [] (l ∷ ls) later cut good =
        let wrong : ◌≡◌ {A = List (Option Line)} [] (Some l ∷ map Some ls) = good in cc
    of (t ∷ texts) lines later cut good =
        let wrong : ◌≡◌ {A = List (List ℕ)} [] (t ∷ (texts ++ later)) = cut in cc

-- no line sets no bit
none-set : (lines : List Line) → lines ≡ [] → Applied zeros with_one lines → ⊥
unfolding content
none-set lines is did =
    both_ways (content with_one.words 0) (did.1.bits 0
    ∙ ap (λ l. state_after 64 3 (content (0 ∷ [])) (operations l) 0) is) refl

-- the first line of these bytes is good
first : AreFirstGood (Some (codes "i 1\nc")) (Insert 1 ∷ [])
unfolding lines_by line_of number_of
first = record {
  texts = codes "i 1" ∷ [];
  first = record { later = codes "c" ∷ []; cut = refl };
  good = refl;
}

-- a read failed behind the first line, or a write did: that line was carried out, and none where
-- nothing was read
served_before-cases : ServedBefore (Some (codes "i 1\nc")) zeros with_one (Some [])
    (Some (codes "false\n"))
    × (ServedBefore (Some []) zeros with_one (Some []) (Some []) → ⊥)
served_before-cases = (
  record { lines = Insert 1 ∷ []; carried = carried; first = first },
  λ did. none-set did.lines (no-lines did.lines did.first)
      (did.carried.given, did.carried.filter),
)

served_some-cases : ServedSome (Some (codes "i 1\nc")) zeros with_one
    × (ServedSome (Some []) zeros with_one → ⊥)
served_some-cases = (
  record {
    lines = Insert 1 ∷ [];
    applied = (carried.given, carried.filter);
    first = first;
  },
  λ did. none-set did.lines (no-lines did.lines did.first) did.applied,
)
