use Rattle.bloom_engine.proofs.FailedLemmas.{served_before, served_some, some_more}
use Rattle.bloom_engine.proofs.ServedLemmas.{serving_more, served_all, served_upto}
use Rattle.bloom_engine.proofs.engine.serve_lines.Goals as goal

pub returns-in-End-clause-all : goal.returns-in-End-clause-all
returns-in-End-clause-all g c =
    served_all c.lines.invariant _ c.next_command.ensures.kept c.next_command.new.lines _ _
    c.in_ok-next_command.ensures.next c.in-End.is

pub returns-in-Bad-clause-bad : goal.returns-in-Bad-clause-bad
returns-in-Bad-clause-bad g c =
    served_upto c.lines.invariant _ c.next_command.ensures.kept c.next_command.new.lines _ _
    c.in_ok-next_command.ensures.next c.in-Bad.is

pub lines-preserved : goal.lines-preserved
lines-preserved g c =
    serving_more c.lines.invariant _ c.next_command.ensures.kept _ _ _
    c.in_ok-next_command.ensures.next _ _ _ _ c.in-Good.is c.next_command.ensures.knows
    c.next_command.ensures.limit c.lists_join.ensures
    c.in_ok-serve_line-in-Good.ensures.carried c.saturating_add-number.ensures

pub returns-in_err-next_command-clause-input : goal.returns-in_err-next_command-clause-input
returns-in_err-next_command-clause-input g c = λ is.
    served_before c.lines.invariant _ c.next_command.ensures.kept

pub returns-in_err-next_command-clause-any : goal.returns-in_err-next_command-clause-any
returns-in_err-next_command-clause-any g c = served_some c.lines.invariant

pub returns-in_err-serve_line-in-Good-clause-any : goal.returns-in_err-serve_line-in-Good-clause-any
returns-in_err-serve_line-in-Good-clause-any g c =
    some_more c.lines.invariant c.next_command.new.lines _ _ _ c.in_ok-next_command.ensures.next
    c.in-Good.is c.lists_join.ensures _ c.serve_line.ensures.applied

pub returns-in-Bad-clause-any : goal.returns-in-Bad-clause-any
returns-in-Bad-clause-any g c = served_some c.lines.invariant
