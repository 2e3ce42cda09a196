use Rattle.std.proofs.Common.{◌≡◌, sym, ◌∙◌, ap, rules, Err, Ok}
use Rattle.duplicates_engine.proofs.Common.{Memory, left_of, limit_of}
use Rattle.duplicates_engine.proofs.AheadLemmas.{looked-next, looked-none, looked-opened, looked-same}
use Rattle.duplicates_engine.proofs.CauseLemmas.{opening-system, refusal-system, caused-first, caused-line}
use Rattle.duplicates_engine.proofs.EndLemmas.{first-none, first-read, none-read}
use Rattle.duplicates_engine.proofs.KeepingLemmas.{keeping-first, keeping-next, keeps-all, kept_now, ends-long, ends-step}
use Rattle.duplicates_engine.proofs.KeptLemmas.{kept-none, keeps-new, ends-behind}
use Rattle.duplicates_engine.proofs.LineStepLemmas.{keeping-more, ends-writer, next-first}
use Rattle.duplicates_engine.proofs.keep.keep_lines.Goals as goal

pub returns-in_err-input-clause-fault : goal.returns-in_err-input-clause-fault
returns-in_err-input-clause-fault g c =
    let same : c.from_residual.result ≡ Err c.in_err-input.field-0.0 = search rules in
    let is = c.in_err-input.ensures.fault in
    rw same
    (ends-behind (kept-none g.V.Sieve g.row.END c.args.options _ _) g.I.Inputs.fails _
    c.open_next.new.inputs _ (opening-system g.I.Inputs.fails _ _ _ is) (first-none g.row.END _)
    (caused-first g.V.Sieve.refuses g.I.Inputs.fails g.row.END c.args.options.longest _ _ _ _ _
    is))

pub returns-in_err-opened-clause-fault : goal.returns-in_err-opened-clause-fault
returns-in_err-opened-clause-fault g c =
    let same : c.from_residual-in_err-opened.result ≡ Err c.in_err-opened.field-0.0 =
    search rules in
    rw same
    (rw c.in_err-opened.ensures.fault
    (ends-behind (kept-none g.V.Sieve g.row.END c.args.options _ _) g.I.Inputs.fails _
    c.open_next.new.inputs Memory tt (first-none g.row.END _) tt))

pub returns-in_default-clause-all : goal.returns-in_default-clause-all
returns-in_default-clause-all g c =
    keeps-new (kept-none g.V.Sieve g.row.END c.args.options _ _) _ _
    (none-read g.row.END _ _ (rw c.in_default.is at c.in_ok-input.ensures.opened))

pub steps-init : goal.steps-init
steps-init g c = record {
  keeping =
      keeping-first g.V.Sieve g.row.END c.args.options _ _ _ _ _ _ _
      (rw c.in-Some.is at c.in_ok-input.ensures.opened) c.in_ok-opened.ensures.fresh;
  looked = looked-none _ _ _ _ _ c.new-ahead.ensures;
}

pub returns-in_err-next_step-clause-fault : goal.returns-in_err-next_step-clause-fault
returns-in_err-next_step-clause-fault g c =
    let same : c.from_residual-in_err-next_step.result ≡ Err c.in_err-next_step.field-0.0 =
    search rules in
    rw same
    (ends-step c.steps.invariant.keeping _ c.next_step.ensures.kept g.I.Inputs.fails c.steps.inputs
    c.next_step.new.inputs _ c.in_err-next_step.ensures.fault)

pub returns-in-End-clause-all : goal.returns-in-End-clause-all
returns-in-End-clause-all g c =
    keeps-all c.steps.invariant.keeping _ c.next_step.ensures.kept _
    (rw c.in-End.is at c.in_ok-next_step.ensures.step)

pub steps-preserved-in-Opened : goal.steps-preserved-in-Opened
steps-preserved-in-Opened g c = record {
  keeping =
      keeping-next c.steps.invariant.keeping _ c.next_step.ensures.kept _ _ _ _
      (rw c.in-Opened.is at c.in_ok-next_step.ensures.step)
      c.in_ok-next_step.ensures.knows c.in_ok-next_step.ensures.limit;
  looked =
      looked-opened (g.V.Sieve.has_hash c.steps.sieve) g.row.END (limit_of c.args.options) _
      c.next-looked.result c.steps.opened.lines.bytes _ _
      (looked-same (g.V.Sieve.has_hash c.steps.sieve) g.row.END (limit_of c.args.options)
      c.next-looked.result c.steps.opened.lines.bytes _ c.limit.ensures c.waiting.ensures
      c.next-looked.ensures)
      c.next_step.ensures.looked
      (λ l took. let wrong = sym took.0 ∙ c.in_ok-next_step.was ∙ ap Ok c.in-Opened.is in cc);
}

pub returns-in-TooLong-clause-fault : goal.returns-in-TooLong-clause-fault
returns-in-TooLong-clause-fault g c =
    ends-long c.steps.invariant.keeping _ c.next_step.ensures.kept g.I.Inputs.fails
    c.next_step.new.inputs
    (left_of c.next_step.new.opened.lines (g.I.Input.Read.remaining c.next_step.new.input)) _ _
    (rw c.in-TooLong.is at c.in_ok-next_step.ensures.step) c.saturating_add.ensures

pub returns-clause-fault : goal.returns-clause-fault
returns-clause-fault g c =
    ends-behind c.steps.invariant.keeping.kept g.I.Inputs.fails _ c.steps.inputs _ tt
    (first-read c.steps.invariant.keeping.reading) (λ same. cc)

pub returns-in_err-is_held-clause-fault : goal.returns-in_err-is_held-clause-fault
returns-in_err-is_held-clause-fault g c =
    let same : c.from_residual-in_err-is_held.result ≡ Err c.in_err-is_held.field-0.0 =
    search rules in
    let is = c.in_err-is_held.ensures.refused in
    rw (same, c.in_err-is_held.ensures.same)
    (ends-behind (kept_now c.steps.invariant.keeping _ c.next_step.ensures.kept)
    g.I.Inputs.fails _ c.next_step.new.inputs _ (refusal-system g.V.Sieve.refuses _ _ _ is)
    (first-read c.steps.invariant.keeping.reading)
    (caused-line g.V.Sieve.refuses g.I.Inputs.fails g.row.END c.args.options.longest _ _ _ _ _ _
    (next-first c.steps.invariant.keeping _ c.next_step.ensures.kept c.next_step.new.opened.lines
    _ _ _ (rw c.in-Line.is at c.in_ok-next_step.ensures.step) c.line-line.ensures)
    c.in_err-is_held.ensures.short is))

pub returns-in_err-put_chosen-clause-fault : goal.returns-in_err-put_chosen-clause-fault
returns-in_err-put_chosen-clause-fault g c =
    let same : c.from_residual-in_err-put_chosen.result ≡ Err c.in_err-put_chosen.field-0.0 =
    search rules in
    rw same
    (ends-writer c.steps.invariant.keeping _ c.next_step.ensures.kept c.next_step.new.opened.lines
    _ _ _ (rw c.in-Line.is at c.in_ok-next_step.ensures.step) c.line-line.ensures
    c.in_ok-is_held.ensures.sifted (g.met.V.Sieve.none _) c.in_ok-is_held.ensures.new
    c.in_ok-is_held.ensures.taken c.in_ok-is_held.ensures.span
    (rw c.is_longer.ensures at c.count_line.ensures) g.I.Inputs.fails
    c.next_step.new.inputs _ _ (rw c.in_err-put_chosen.was at c.put_chosen.ensures))

pub steps-preserved : goal.steps-preserved
steps-preserved g c = record {
  keeping =
      keeping-more c.steps.invariant.keeping _ c.next_step.ensures.kept
      c.next_step.new.opened.lines _ _ _
      (rw c.in-Line.is at c.in_ok-next_step.ensures.step) c.line-line.ensures
      c.in_ok-is_held.ensures.sifted (g.met.V.Sieve.none _) c.in_ok-is_held.ensures.new
      c.in_ok-is_held.ensures.taken c.in_ok-is_held.ensures.span
      (rw c.is_longer.ensures at c.count_line.ensures) _ c.in_ok-next_step.ensures.knows
      c.in_ok-next_step.ensures.limit (rw c.in_ok-put_chosen.was at c.put_chosen.ensures);
  looked =
      looked-next (g.V.Sieve.has_hash c.steps.sieve) (g.V.Sieve.has_hash c.sift_line.new.sieve)
      g.row.END (limit_of c.args.options) c.sift_line.ensures.hashes _ c.next-looked.result
      c.steps.opened.lines.bytes _ _ _
      (looked-same (g.V.Sieve.has_hash c.steps.sieve) g.row.END (limit_of c.args.options)
      c.next-looked.result c.steps.opened.lines.bytes _ c.limit.ensures c.waiting.ensures
      c.next-looked.ensures)
      c.next_step.ensures.looked;
}
