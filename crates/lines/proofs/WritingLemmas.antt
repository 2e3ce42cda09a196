-- Writing a text, as far as the writer takes it.
use Rattle.std.proofs.Common.{◌≡◌, ℕ, ◌-◌, ◌≤◌, arith, length, length-drop, take_all, List, [], ◌++◌, take, drop, take-append-drop, Option, Result, Ok, Err, sym, ◌∙◌, ap, append_assoc, append-nil}
use Rattle.std.specs.Prelude.{OnErr}
use Rattle.std.specs.Io.KnownBytes.{Appends}
use Rattle.std.proofs.KnownBytes.{Appends-trans}
use Rattle.lines.specs.Writing.{Begins, AppendsPart}

-- a text begins with itself
pub Begins-whole : (text written : List ℕ) → written ≡ text → Begins text written
Begins-whole text written is =
    record { rest = []; cut = sym is ∙ sym (append-nil written) }

-- with a text in front of both, one begins with the other all the same
pub Begins-after : (front text written : List ℕ) → Begins text written
    → Begins (front ++ text) (front ++ written)
Begins-after front text written is = record {
  rest = is.rest;
  cut = ap (λ l. front ++ l) is.cut ∙ sym (append_assoc front written is.rest);
}

-- the first of two texts and a part of the second are a part of both
pub part-second : (first second : List ℕ) (from mid to : Option (List ℕ)) → Appends from mid first
    → AppendsPart second mid to → AppendsPart (first ++ second) from to
part-second first second from mid to wrote part = record {
  written = first ++ part.written;
  appended = Appends-trans from mid to first part.written wrote part.appended;
  begins = Begins-after first second part.written part.begins;
}

-- the first of two texts was written, and of the second as much as before the error
pub part-both : {E : Type 0} (first second : List ℕ) (from mid to : Option (List ℕ))
    (result : Result (Unit {0}) E) → Appends from mid first
    → OnErr result (AppendsPart second mid to)
    → OnErr result (AppendsPart (first ++ second) from to)
part-both first second from mid to (Ok unit) one two = tt
part-both first second from mid to (Err error) one two =
    part-second first second from mid to one two

-- a text was written, as far as all but the rest of it
pub record IsWriting (text rest : List ℕ) (from to : Option (List ℕ)) : Type 0 where
  pub written : List ℕ
  pub appended : Appends from to written
  pub cut : text ≡ written ++ rest

module _ (text rest : List ℕ) (from to : Option (List ℕ)) (so_far : IsWriting text rest from to)
  where
    -- some bytes more were written
    pub writing-more : (n : ℕ) (end : Option (List ℕ)) → Appends to end (take n rest)
        → IsWriting text (take (length rest - n) (drop n rest)) from end
    writing-more n end more = record {
      written = so_far.written ++ take n rest;
      appended = Appends-trans from to end so_far.written (take n rest) so_far.appended more;
      cut =
          so_far.cut ∙ ap (λ l. so_far.written ++ l) (sym (take-append-drop n rest))
          ∙ sym (append_assoc so_far.written (take n rest) (drop n rest))
          ∙ ap (λ l. (so_far.written ++ take n rest) ++ l)
          (sym (take_all (length rest - n) (drop n rest) few));
    }
      where
        few : length (drop n rest) ≤ length rest - n
        few = omega (arith, length-drop n rest)
