use Rattle.std.proofs.lemmas.Result.{IfErr-weaker, IfOk-weaker}
use Rattle.duplicates_engine.proofs.ChoiceLemmas.{writes-choice, writes-until}
use Rattle.duplicates_engine.proofs.FlushLemmas.{all-flushed, broken, ends-flushed}
use Rattle.duplicates_engine.proofs.keep.keep_new.Goals as goal

pub returns-in-Ok-clause-all : goal.returns-in-Ok-clause-all
returns-in-Ok-clause-all g c =
    all-flushed g.V.Sieve g.row.END c.args.options _ _ _ _ _ _ c.flush.ensures.kept _ _
    c.keep_lines-kept.ensures.all

pub returns-in-Ok-clause-fault : goal.returns-in-Ok-clause-fault
returns-in-Ok-clause-fault g c =
    ends-flushed g.V.Sieve g.row.END c.args.options _ _ _ _ _ _ c.flush.ensures.kept
    g.I.Inputs.fails _ _ c.keep_lines-kept.ensures.fault

pub returns-in-Err-clause-fault : goal.returns-in-Err-clause-fault
returns-in-Err-clause-fault g c =
    broken g.V.Sieve g.row.END c.args.options _ _ _ _ _ _ c.flush.ensures.kept g.I.Inputs.fails _
    _ _ c.in-Err.ensures.fault _ c.keep_lines-kept.ensures.all c.keep_lines-kept.ensures.fault

pub returns-in-Ok-clause-choice : goal.returns-in-Ok-clause-choice
returns-in-Ok-clause-choice g c =
    IfOk-weaker c.keep_lines-kept.result _ _
    (writes-choice g.V.Sieve g.row.END c.args.options _ _ _ _ _ _) (returns-in-Ok-clause-all g c)

pub returns-in-Ok-clause-choice_until : goal.returns-in-Ok-clause-choice_until
returns-in-Ok-clause-choice_until g c =
    IfErr-weaker c.keep_lines-kept.result _ _ (λ fault ends.
    writes-until g.V.Sieve g.row.END c.args.options _ _ _ _ _ fault ends.until)
    (returns-in-Ok-clause-fault g c)

pub returns-in-Err-clause-choice_until : goal.returns-in-Err-clause-choice_until
returns-in-Err-clause-choice_until g c =
    writes-until g.V.Sieve g.row.END c.args.options _ _ _ _ _ _
    (returns-in-Err-clause-fault g c).until
