-- What a writer holds of a text where it fails: a case that holds, and the nearest that don't.
use Rattle.std.proofs.Common.{◌≡◌, suc, [], ◌∷◌, ◌++◌, length, get_or, Some, refl, sym, ap, ◌∙◌, arith}
use Rattle.std.specs.Prelude.{codes}
use Rattle.lines.specs.Writing.{AppendsPart}

-- the first of two bytes was written behind the one that was there: not the second, nor may what
-- was there be lost
part : AppendsPart (codes "a\n") (Some (5 ∷ [])) (Some (5 ∷ 97 ∷ []))
    × (AppendsPart (codes "a\n") (Some []) (Some (10 ∷ [])) → ⊥)
    × (AppendsPart (codes "a\n") (Some (5 ∷ [])) (Some []) → ⊥)
part = (
  record { written = 97 ∷ []; appended = refl; begins = record { rest = 10 ∷ []; cut = refl } },
  λ is. (let text : codes "a\n" ≡ 10 ∷ is.begins.rest =
      is.begins.cut ∙ ap (λ l. l ++ is.begins.rest) (sym is.appended) in
      omega (arith, ap (λ l. get_or l 0 0) text)),
  λ is. (let none : 0 ≡ suc (length is.written) = ap length is.appended in omega (arith, none)),
)
