-- Good lines taken, one after the other.
use Rattle.std.proofs.Common.{◌≡◌, ℕ, List, [], ◌∷◌, ◌++◌, map, Option, Some, refl, sym, ◌∙◌, ap}
use Rattle.bloom_engine.proofs.Common.{prepend_known, Line, line_of}
use Rattle.std.proofs.lemmas.List.{map-append}
use Rattle.lines.specs.Reading.{TakesLineBy}
use Rattle.lines.proofs.TakenLemmas.{TakesLinesBy, TakesLines-nil, TakesLines-more}

-- lines were taken, and each is good
pub record TakesGood (old new : Option (List ℕ)) (lines : List Line) : Type 0 where
  pub texts : List (List ℕ)
  pub taken : TakesLinesBy 10 old new texts
  pub good : map line_of texts ≡ map Some lines

-- no line was taken yet
pub TakesGood-nil : (block : List ℕ) (read : Option (List ℕ)) → block ≡ []
    → TakesGood read (prepend_known block read) []
TakesGood-nil block read empty =
    record { texts = []; taken = TakesLines-nil 10 block read empty; good = refl }

-- one more good line was taken
pub TakesGood-more : (a b c : Option (List ℕ)) (lines : List Line) (text : List ℕ) (line : Line)
    → TakesGood a b lines → TakesLineBy 10 b c text → line_of text ≡ Some line
    → TakesGood a c (lines ++ line ∷ [])
TakesGood-more a b c lines text line so_far one good = record {
  texts = so_far.texts ++ text ∷ [];
  taken = TakesLines-more 10 a b c so_far.texts text so_far.taken one;
  good =
      map-append line_of so_far.texts (text ∷ [])
      ∙ ap (λ l. l ++ line_of text ∷ []) so_far.good
      ∙ ap (λ o. map Some lines ++ o ∷ []) good ∙ sym (map-append Some lines (line ∷ []));
}
