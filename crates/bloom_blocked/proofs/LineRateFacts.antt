-- Rates of lines: for each definition that public clauses cite a case that holds and cases as near
-- as can be that don't.
use Rattle.std.proofs.Common.{◌≡◌, ◌^◌, ◌≤◌, ℕ, List, [], ◌∷◌, get_or, refl, arith, lit<, lit≤}
use Rattle.bloom_parts.specs.Draws.{sum_below, sum_draws, all_in}
use Rattle.bloom_blocked.proofs.Common.{SharedWords, FoundByLoad, line_words, BoundsLines, BoundsLoadedLines, LineWasLoaded}
use Rattle.bloom_parts.specs.declared.math.bracket.Bracket.{Bracket}

abbrev nine : List ℕ
nine = 10 ∷ 11 ∷ 12 ∷ 13 ∷ 14 ∷ 15 ∷ 16 ∷ 17 ∷ 18 ∷ []

-- the eighth word is the last of its line
line_words-cases : (line_words nine 0 ≡ 10 ∷ 11 ∷ 12 ∷ 13 ∷ 14 ∷ 15 ∷ 16 ∷ 17 ∷ [])
    × (line_words nine 1 ≡ 18 ∷ [])
line_words-cases = (refl, refl)

-- a bracket of these units
abbrev between : (low high : ℕ) → low ≤ high → high ≤ 2 ^ 63 → Bracket
between low high ordered fits =
    record { low = low; high = high; ordered = ordered; in_range = fits }

-- a look-up of no position returns true in each of two lines: the rate is the whole, no unit less,
-- and no bracket two units wide bounds it
bounds_lines-cases :
    BoundsLines (line_words nine) 2 0 (between (2 ^ 63) (2 ^ 63) (lit≤ tt) (lit≤ tt))
    × (BoundsLines (line_words nine) 2 0
    (between 9223372036854775807 9223372036854775807 (lit≤ tt) (lit≤ tt)) → ⊥)
    × (BoundsLines (line_words nine) 2 0
    (between 9223372036854775806 (2 ^ 63) (lit≤ tt) (lit≤ tt)) → ⊥)
unfolding sum_below sum_draws all_in
bounds_lines-cases = (
  record { holds = record { at_least = lit≤ tt; at_most = lit≤ tt }; width = lit≤ tt },
  λ is. omega (arith, is.holds.at_most),
  λ is. omega (arith, is.width),
)

-- each line was loaded, the last one too; it has eight words, and word 1 of line 1 is that of index
-- 9
bounds_loaded_lines-cases : (v : SharedWords) (bracket : Bracket)
    → (is : BoundsLoadedLines v 2 0 bracket)
    → LineWasLoaded v 1 (is.words 1) × FoundByLoad v 9 (get_or (is.words 1) 1 0)
    × BoundsLines is.words 2 0 bracket × (LineWasLoaded v 0 [] → ⊥)
bounds_loaded_lines-cases v bracket is = (
  is.loaded 1 (lit< tt),
  (is.loaded 1 (lit< tt)).each 1 (lit< tt),
  is.bounds,
  λ none. omega (arith, none.count),
)
