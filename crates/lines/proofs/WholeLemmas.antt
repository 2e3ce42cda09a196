-- A line that waits whole among the bytes that were read.
use Rattle.std.proofs.Common.{◌≡◌, ℕ, ◌+◌, ◌<◌, ◌≤◌, suc, true, List, [], ◌∷◌, ◌++◌, length, take, drop, Option, sym, ◌∙◌, ◌⊎◌, ap, append_assoc, arith, inl, inr}
use Rattle.std.proofs.lemmas.Bool.{both_ways, cases_lt}
use Rattle.std.proofs.lemmas.List.{get_or-take, length-take-le}
use Rattle.std.proofs.Math.Seq.{split_at}
use Rattle.std.specs.Io.KnownBytes.{prepend_known}
use Rattle.lines.specs.Lines.{has_no_end_by}
use Rattle.lines.specs.Reading.{CutsLineBy, HasEndAtBy, TakesShortBy}
use Rattle.lines.proofs.LineLemmas.{has_no_end-not}
use Rattle.lines.proofs.ReadingLemmas.{taken-ended, taken-front}

-- the bytes are the first line, its end, and the rest
whole-cut : {end longest n : ℕ} {bytes rest line : List ℕ}
    → CutsLineBy end longest bytes rest line n
    → bytes ≡ line ++ end ∷ rest
whole-cut {end} {longest} {n} {bytes} {rest} {line} cut =
    let next : suc n ≡ n + 1 = omega arith in
    split_at bytes n 0 cut.ends.within
    ∙ ap (λ b. take n bytes ++ b ∷ drop (suc n) bytes) cut.ends.ended
    ∙ ap (λ k. take n bytes ++ end ∷ drop k bytes) next
    ∙ ap (λ l. l ++ end ∷ drop (n + 1) bytes) (sym cut.is_line)
    ∙ ap (λ l. line ++ end ∷ l) (sym cut.is_rest)

-- the first line was taken with its end
pub takes-whole : {end longest n : ℕ} {bytes rest line : List ℕ} (left : Option (List ℕ))
    → CutsLineBy end longest bytes rest line n
    → TakesShortBy end longest (prepend_known bytes left) (prepend_known rest left) line
takes-whole {end} {longest} {n} {bytes} {rest} {line} left cut = record {
  takes =
      taken-ended
      (taken-front bytes (line ++ end ∷ []) rest left
      (whole-cut cut ∙ sym (append_assoc line (end ∷ []) rest)))
      (ap (has_no_end_by end) cut.is_line ∙ cut.ends.inside);
  short =
      omega (
        arith,
        ap length cut.is_line,
        length-take-le n bytes (omega (arith, cut.ends.within)),
        cut.short,
      );
}

-- where the first line is too long, it is so wherever its end is found
pub ends-past : {end longest m : ℕ} {bytes : List ℕ} → HasEndAtBy end bytes m → longest < m
    → (n : ℕ) → HasEndAtBy end bytes n → longest < n
ends-past {end} {longest} {m} {bytes} found long n is = by (cases_lt n m)
  where
    by : (n < m) ⊎ (m ≤ n) → longest < n
    by (inl before) =
        let size = length-take-le m bytes (omega (arith, found.within)) in
        absurd (both_ways (has_no_end_by end (take m bytes))
        (has_no_end-not (take m bytes) n (omega (arith, size, before))
        (get_or-take m bytes n 0 before ∙ is.ended))
        found.inside)
    by (inr behind) = omega (arith, long, behind)

-- bytes that end no line have no first line with its end
pub ends-nowhere : {end longest : ℕ} {bytes : List ℕ} → has_no_end_by end bytes ≡ true
    → (n : ℕ) → HasEndAtBy end bytes n → longest < n
ends-nowhere {end} {longest} {bytes} none n is =
    absurd (both_ways (has_no_end_by end bytes)
    (has_no_end-not bytes n is.within is.ended) none)
