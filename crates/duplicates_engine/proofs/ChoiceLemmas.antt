-- The lines that a run writes are a choice of all lines.
use Rattle.std.proofs.Common.{ℕ, List, Option}
use Rattle.duplicates_engine.proofs.Common.{Fault, Options, Ghosts, Total, WritesChoice, WritesChoiceUntil, chosen, KeepsNew, KeepsUntil}
use Rattle.duplicates_engine.proofs.PlaceLemmas.{chosen-nothing, leaves-new, writes-new}

module _ {V : Type 0} (sieve : Ghosts V) (end : ℕ) (options : Options)
    (come : Option (List (List ℕ))) (old new : V) (from to : Option (List ℕ)) where
  -- a whole run writes a choice of all lines
  pub writes-choice : (left : Option (List (List ℕ))) (total : Total)
      → KeepsNew sieve end options come left old new from to total
      → WritesChoice (sieve.span old) end options come left from to
  writes-choice left total run = record {
    lines = run.lines;
    chosen = chosen options run.lines run.replies;
    whole = run.whole;
    new =
        writes-new (sieve.span old) options run.lines run.replies run.sifted.count
        run.sifted.are_new;
    held_back =
        leaves-new (sieve.span old) options run.lines run.replies run.sifted.count
        run.sifted.are_new;
    nothing = chosen-nothing options run.lines run.replies;
    short = run.short;
    text = run.text;
  }

  -- a run up to a fault writes a choice of the first lines
  pub writes-until : (fault : Fault) → KeepsUntil sieve end options come old new from to fault
      → WritesChoiceUntil (sieve.span old) end options come from to fault
  writes-until fault run = record {
    lines = run.lines;
    chosen = chosen options run.lines run.replies;
    reached = run.reached;
    new =
        writes-new (sieve.span old) options run.lines run.replies run.sifted.count
        run.sifted.are_new;
    held_back =
        leaves-new (sieve.span old) options run.lines run.replies run.sifted.count
        run.sifted.are_new;
    nothing = chosen-nothing options run.lines run.replies;
    short = run.short;
    written = run.written;
    text = run.text;
    is_text = run.is_text;
  }
