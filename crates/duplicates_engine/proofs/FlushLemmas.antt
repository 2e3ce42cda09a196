-- What a flush behind a run leaves of its promises.
use Rattle.std.proofs.Common.{ℕ, List, Option, Result, Ok, Err}
use Rattle.std.proofs.lemmas.Result.{IfErr-weaker, IfOk-weaker}
use Rattle.duplicates_engine.proofs.Common.{IfOk, IfErr, Keeps, Appends-kept, ErrorKind, Fault, TooLong, Options, Ghosts, Total, IsOfWriter, IsReadAt, IsWrittenAt, AreFirstRead, text_of, EndsEarly, KeepsNew, KeepsUntil, limit_of}
use Rattle.duplicates_engine.proofs.CauseLemmas.{caused-writer}
use Rattle.duplicates_engine.proofs.EndLemmas.{first-all, first-long}
use Rattle.duplicates_engine.proofs.KeptLemmas.{kept-of, kept-flushed, keeps-new, ends-behind}
use Rattle.duplicates_engine.proofs.WriteLemmas.{from-begins, to-begins, writer-system, reached-at}

-- at any fault the lines are the first ones
first-lines : (end longest : ℕ) (fault : Fault) (come : Option (List (List ℕ)))
    (lines : List (List ℕ)) → IsReadAt end longest fault come lines → AreFirstRead end come lines
first-lines end longest (TooLong number) come lines is = first-long end longest number come lines is
first-lines end longest other come lines is = is

module _ {V : Type 0} (sieve : Ghosts V) (end : ℕ) (options : Options)
    (come : Option (List (List ℕ))) (old new : V) (from to flushed : Option (List ℕ))
    (keeps : Keeps to flushed) where
  -- a flush changes nothing of a run that went well
  pub all-flushed : (left : Option (List (List ℕ))) (result : Result Total Fault)
      → IfOk result (KeepsNew sieve end options come left old new from to)
      → IfOk result (KeepsNew sieve end options come left old new from flushed)
  all-flushed left result = IfOk-weaker result _ _ (λ total run.
      keeps-new (kept-flushed (kept-of run) flushed keeps) come left run.whole)

  -- the lines of a run that ended early, behind a flush that may be the fault itself
  abbrev until-flushed : (first fault : Fault)
      → (run : KeepsUntil sieve end options come old new from to first)
      → IsWrittenAt fault (text_of end options run.lines run.replies) run.written
      → IsReadAt end (limit_of options) fault come run.lines
      → KeepsUntil sieve end options come old new from flushed fault
  until-flushed first fault run is_text reached = record {
    lines = run.lines;
    replies = run.replies;
    sifted = run.sifted;
    written = run.written;
    text = Appends-kept from to flushed _ run.text keeps;
    is_text = is_text;
    reached = reached;
    short = run.short;
  }

  module _ {I : Type 0} (fails : I → I → ErrorKind → Type 0) (inputs : I) where
    -- a flush changes nothing of a run that ended early
    pub ends-flushed : {A : Type 0} (result : Result A Fault)
        → IfErr result (EndsEarly sieve fails end options come inputs old new from to)
        → IfErr result (EndsEarly sieve fails end options come inputs old new from flushed)
    ends-flushed result = IfErr-weaker result _ _ (λ fault ends. record {
      until = until-flushed fault fault ends.until ends.until.is_text ends.until.reached;
      caused = ends.caused;
    })

    -- whatever came first, where the flush fails the run ended at that
    pub broken : (left : Option (List (List ℕ))) (fault : Fault) (is : IsOfWriter fault)
        (result : Result Total Fault)
        → IfOk result (KeepsNew sieve end options come left old new from to)
        → IfErr result (EndsEarly sieve fails end options come inputs old new from to)
        → EndsEarly sieve fails end options come inputs old new from flushed fault
    broken left fault is (Ok total) run ends =
        ends-behind (kept-flushed (kept-of run) flushed keeps) fails come inputs fault
        (writer-system fault is) (first-all end come left run.lines run.whole)
        (caused-writer sieve.refuses fails end options.longest come new run.lines inputs fault is)
    broken left fault is (Err first) all ends =
        let run = ends.until in
        let text = text_of end options run.lines run.replies in
        record {
          until =
              until-flushed first fault run
              (from-begins fault text run.written is
              (to-begins first text run.written run.is_text))
              (reached-at end (limit_of options) fault come run.lines (writer-system fault is)
              (first-lines end (limit_of options) first come run.lines run.reached));
          caused =
              caused-writer sieve.refuses fails end options.longest come new run.lines inputs fault
              is;
        }
