-- The lines that a run kept, and what it promises of them where it ends.
use Rattle.std.proofs.Common.{ℕ, ◌≤◌, length, Bool, List, [], Option}
use Rattle.std.proofs.KnownBytes.{Appends-nil}
use Rattle.duplicates_engine.proofs.Common.{All-nil, Appends, Appends-kept, Keeps, AreShort, ErrorKind, Fault, Options, Ghosts, Total, Counts, IsOfSystem, IsReadAt, AreFirstRead, limit_of, HasSifted, text_of, EndsEarly, KeepsNew}
use Rattle.duplicates_engine.specs.Causes.{IsCaused}
use Rattle.duplicates_engine.specs.Inputs.{AreAllRead}
use Rattle.duplicates_engine.proofs.CountLemmas.{nothing, counts-nil}
use Rattle.duplicates_engine.proofs.SiftLemmas.{sifted-nil}
use Rattle.duplicates_engine.proofs.WriteLemmas.{written-all, reached-at}

module _ {V : Type 0} (sieve : Ghosts V) (end : ℕ) (options : Options) (old : V)
    (from : Option (List ℕ)) where
  -- these lines were sifted and counted, and the chosen ones written
  pub record HasKept (now : V) (to : Option (List ℕ)) (total : Total) : Type 0 where
    pub lines : List (List ℕ)
    pub replies : List Bool
    pub sifted : HasSifted sieve.span sieve.recalls sieve.sifts options.longest old now lines
        replies
    pub text : Appends from to (text_of end options lines replies)
    pub short : AreShort (limit_of options) lines
    pub counts : Counts options.longest lines replies total

  -- no line was sifted yet
  abbrev pub kept-none : HasKept old from nothing
  kept-none = record {
    lines = [];
    replies = [];
    sifted = sifted-nil sieve.span sieve.recalls sieve.sifts options.longest old;
    text = Appends-nil from;
    short = All-nil (λ line. length line ≤ limit_of options);
    counts = counts-nil options.longest;
  }

module _ {V : Type 0} {sieve : Ghosts V} {end : ℕ} {options : Options} {old : V}
    {from : Option (List ℕ)} {now : V} {to : Option (List ℕ)} {total : Total} where
  -- what a run kept that went well
  abbrev pub kept-of : {come left : Option (List (List ℕ))}
      → KeepsNew sieve end options come left old now from to total
      → HasKept sieve end options old from now to total
  kept-of run = record {
    lines = run.lines;
    replies = run.replies;
    sifted = run.sifted;
    text = run.text;
    short = run.short;
    counts = run.counts;
  }

  module _ (kept : HasKept sieve end options old from now to total) where
    -- a flush changes nothing of what was kept
    abbrev pub kept-flushed : (flushed : Option (List ℕ)) → Keeps to flushed
        → HasKept sieve end options old from now flushed total
    kept-flushed flushed keeps = record {
      lines = kept.lines;
      replies = kept.replies;
      sifted = kept.sifted;
      text = Appends-kept from to flushed _ kept.text keeps;
      short = kept.short;
      counts = kept.counts;
    }

    -- where the lines that were kept are all lines, the run went well
    pub keeps-new : (come left : Option (List (List ℕ))) → AreAllRead end come left kept.lines
        → KeepsNew sieve end options come left old now from to total
    keeps-new come left whole = record {
      lines = kept.lines;
      replies = kept.replies;
      sifted = kept.sifted;
      text = kept.text;
      whole = whole;
      short = kept.short;
      counts = kept.counts;
    }

    -- a fault came behind the lines that were kept, all of whose text was written
    pub ends-at : {I : Type 0} (fails : I → I → ErrorKind → Type 0)
        (come : Option (List (List ℕ))) (inputs : I) (fault : Fault)
        → IsReadAt end (limit_of options) fault come kept.lines
        → IsCaused sieve.refuses fails end options.longest come kept.lines now inputs fault
        → EndsEarly sieve fails end options come inputs old now from to fault
    ends-at fails come inputs fault reached caused = record {
      until = record {
        lines = kept.lines;
        replies = kept.replies;
        sifted = kept.sifted;
        written = text_of end options kept.lines kept.replies;
        text = kept.text;
        is_text = written-all fault (text_of end options kept.lines kept.replies);
        reached = reached;
        short = kept.short;
      };
      caused = caused;
    }

    -- a fault that isn't a long line came behind them, where they are the first ones
    pub ends-behind : {I : Type 0} (fails : I → I → ErrorKind → Type 0)
        (come : Option (List (List ℕ))) (inputs : I) (fault : Fault) → IsOfSystem fault
        → AreFirstRead end come kept.lines
        → IsCaused sieve.refuses fails end options.longest come kept.lines now inputs fault
        → EndsEarly sieve fails end options come inputs old now from to fault
    ends-behind fails come inputs fault is first =
        ends-at fails come inputs fault
        (reached-at end (limit_of options) fault come kept.lines is first)
