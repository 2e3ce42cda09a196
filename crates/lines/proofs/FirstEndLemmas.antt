-- The first byte that ends a line, as a search finds it.
use Rattle.std.proofs.Common.{◌≡◌, ℕ, ◌+◌, ◌≤◌, zero, suc, true, get_or, List, length, take, Option, None, Some, refl, sym, ◌∙◌, ap, arith}
use Rattle.std.specs.Prelude.{MatchOption}
use Rattle.std.proofs.lemmas.Bool.{eq-eqb, eqb-true}
use Rattle.std.proofs.lemmas.List.{take_all, take_more}
use Rattle.memchr.specs.Find.{IsFirstByte, Nowhere, Passes, is_byte}
use Rattle.lines.specs.Lines.{has_no_end_by}
use Rattle.lines.specs.Reading.{HasEndAtBy}
use Rattle.lines.proofs.LineLemmas.{has_no_end-more}

-- none of the first n bytes ends a line
none-before : (end : ℕ) (bytes : List ℕ) (n : ℕ) → n ≤ length bytes
    → Nowhere (Passes (is_byte end) bytes) 0 n → has_no_end_by end (take n bytes) ≡ true
none-before end bytes zero low none = refl
none-before end bytes (suc n) low none =
    let next : suc n ≡ n + 1 = omega arith in
    rw next
    (ap (has_no_end_by end) (take_more bytes n 0 (omega (arith, low)))
    ∙ has_no_end-more (take n bytes) (get_or bytes n 0)
    (none-before end bytes n (omega (arith, low))
    (λ k from below. none k from (omega (arith, below))))
    (λ is. none n (omega arith) (omega arith) (eq-eqb (get_or bytes n 0) end is)))

-- what a search for the byte that ends a line finds
pub first-ends : (end : ℕ) (bytes : List ℕ) (found : Option ℕ)
    → IsFirstByte (is_byte end) bytes found
    → MatchOption found (has_no_end_by end bytes ≡ true) (HasEndAtBy end bytes)
first-ends end bytes None none =
    sym (ap (has_no_end_by end) (take_all (length bytes) bytes (omega arith)))
    ∙ none-before end bytes (length bytes) (omega arith) none
first-ends end bytes (Some n) is =
    record {
      within = is.0.high;
      ended = eqb-true (get_or bytes n 0) end is.1;
      inside = none-before end bytes n (omega (arith, is.0.high)) is.0.before;
    }
