-- Whole runs, and runs up to a fault: of each relation cases that hold, and the nearest that don't.
use Rattle.std.proofs.Common.{◌≡◌, ◌≤◌, ℕ, Bool, List, [], ◌∷◌, ◌++◌, length, get_or, Some, refl, ◌∙◌, ap, arith}
use Rattle.duplicates_engine.proofs.Common.{All-from_recursion, All-nil, codes, lines_by, ErrorKind, Fault, Full, Memory, New, Ghosts, Total, lines_in, text_of, KeepsNew, EndsEarly}
use Rattle.duplicates_engine.proofs.Cases.{asked, lines, total}
use Rattle.duplicates_engine.proofs.SieveFacts.{keeps, recalls_none, sifted-all}
use Rattle.duplicates_engine.proofs.SiftLemmas.{sifted-nil}

-- a sieve that tells of a line while none other came behind it, and refuses none
abbrev sieve : Ghosts (List (List ℕ))
sieve = record {
  span = λ _. Some 1;
  recalls = recalls_none;
  sifts = keeps;
  refuses = λ _ _ _. ⊥;
  has_hash = λ _ _ _. ⊥;
}

-- a whole run with such a sieve, which called new all that it sifted, and with these counts
abbrev Kept : ℕ → List (List ℕ) → List (List ℕ) → List (List ℕ) → List ℕ → Total → Type 0
Kept longest come left sifted text counted =
    KeepsNew sieve 10 (asked longest New) (Some come) (Some left) [] sifted (Some []) (Some text)
    counted

-- three lines are read and written, and all are counted; no input is left, and no line is longer
-- than a line may be
kept : Kept 9 (codes "a\nb\n" ∷ codes "a" ∷ []) [] lines (codes "a\nb\na\n") (total 3 0 0)
    × (Kept 9 (codes "a\nb\n" ∷ codes "a" ∷ []) [] lines (codes "a\nb\na\n") (total 2 0 0) → ⊥)
    × (Kept 9 [] (codes "a" ∷ []) [] [] (total 0 0 0) → ⊥)
    × (Kept 0 (codes "a" ∷ []) [] (codes "a" ∷ []) (codes "a\n") (total 1 0 0) → ⊥)
unfolding lines_by
kept = (
  record {
    lines = lines;
    replies = _;
    sifted = sifted-all;
    text = refl;
    whole = record { are_lines = refl; none_left = refl };
    short = All-from_recursion (λ line. length line ≤ 9) lines
        (omega arith, (omega arith, (omega arith, tt)));
    counts = record { read = refl; held = refl; longer = refl };
  },
  λ run. omega (arith, ap length run.whole.are_lines, run.counts.read),
  λ run. cc (run.whole.none_left),
  λ run. (let first : codes "a" ≡ get_or run.lines 0 [] =
      ap (λ l. get_or l 0 []) run.whole.are_lines in
      let one : 1 ≡ length run.lines = ap length run.whole.are_lines in
      omega (arith, ap length first, run.short 0 [] (omega (arith, one)))),
)

-- inputs that open
abbrev fails : Unit {0} → Unit {0} → ErrorKind → Type 0
fails old new kind = ⊥

-- a run that ended early, before it sifted a line
abbrev Ended : List (List ℕ) → List ℕ → Fault → Type 0
Ended come text fault =
    EndsEarly sieve fails 10 (asked 1 New) (Some come) tt [] [] (Some []) (Some text) fault

-- it may be out of memory, and isn't full where its sieve refuses nothing; and it wrote no line
-- that it didn't read
ended : Ended (codes "a\n" ∷ []) [] Memory
    × (Ended (codes "a\n" ∷ []) [] Full → ⊥)
    × (Ended [] (codes "a\n") Memory → ⊥)
ended = (
  record {
    until = record {
      lines = [];
      replies = [];
      sifted = sifted-nil sieve.span recalls_none keeps 1 [];
      written = [];
      text = refl;
      is_text = refl;
      reached = record { later = lines_in 10 (codes "a\n" ∷ []); cut = refl };
      short = All-nil (λ line. length line ≤ 1);
    };
    caused = tt;
  },
  λ run. run.caused.refusal.refused,
  λ run. none run.until.lines run.until.replies run.until.reached.later run.until.reached.cut
      (run.until.text ∙ run.until.is_text),
)
  where
    none : (lines : List (List ℕ)) (replies : List Bool) (later : List (List ℕ))
        → [] ≡ lines ++ later → codes "a\n" ≡ text_of 10 (asked 1 New) lines replies → ⊥
    none [] replies later cut text = omega (arith, ap length text)
    none (line ∷ lines) replies later cut text = cc cut
