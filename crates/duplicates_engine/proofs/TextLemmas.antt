-- The text of the lines that are written.
use Rattle.std.proofs.Common.{◌≡◌, ℕ, Bool, true, false, cond, List, [], ◌∷◌, ◌++◌, length, refl, ◌∙◌, ap, append-nil, arith}
use Rattle.duplicates_engine.proofs.Common.{flat_map-append, Options, writes_line, chosen, lines_text, text_of, piece}

-- a line that is written or not stays at the front
at-front : (b : Bool) (line : List ℕ) (all first last : List (List ℕ)) → all ≡ first ++ last
    → cond b (line ∷ all) all ≡ cond b (line ∷ first) first ++ last
at-front true line all first last same = ap (λ l. line ∷ l) same
at-front false line all first last same = same

-- what one more line adds to those that are written
chosen-more : (options : Options) (lines : List (List ℕ)) (replies : List Bool) (line : List ℕ)
    (reply : Bool) → length replies ≡ length lines
    → chosen options (lines ++ line ∷ []) (replies ++ reply ∷ [])
    ≡ chosen options lines replies ++ chosen options (line ∷ []) (reply ∷ [])
chosen-more options [] [] line reply same = refl
chosen-more options [] (r ∷ replies) line reply same = absurd (omega (arith, same))
chosen-more options (l ∷ lines) [] line reply same = absurd (omega (arith, same))
chosen-more options (l ∷ lines) (r ∷ replies) line reply same =
    at-front (writes_line options l r) l
    (chosen options (lines ++ line ∷ []) (replies ++ reply ∷ []))
    (chosen options lines replies) (chosen options (line ∷ []) (reply ∷ []))
    (chosen-more options lines replies line reply (omega (arith, same)))

-- the text of one line
one-text : (end : ℕ) (line : List ℕ) (b : Bool)
    → lines_text end (cond b (line ∷ []) []) ≡ cond b (line ++ end ∷ []) []
one-text end line true = append-nil (line ++ end ∷ [])
one-text end line false = refl

-- what one more line adds to the text
pub text-more : (end : ℕ) (options : Options) (lines : List (List ℕ)) (replies : List Bool)
    (line : List ℕ)
    (reply : Bool) → length replies ≡ length lines
    → text_of end options (lines ++ line ∷ []) (replies ++ reply ∷ [])
    ≡ text_of end options lines replies ++ piece end options line reply
text-more end options lines replies line reply same =
    ap (lines_text end) (chosen-more options lines replies line reply same)
    ∙ flat_map-append (λ l. l ++ end ∷ []) (chosen options lines replies)
    (chosen options (line ∷ []) (reply ∷ []))
    ∙ ap (λ t. text_of end options lines replies ++ t)
    (one-text end line (writes_line options line reply))
