use Rattle.duplicates_engine.proofs.LongerLemmas.{all-lines, last-lines}
use Rattle.duplicates_engine.proofs.laws.last_lines_differ.Goals as goal

pub returns-clause-all : goal.returns-clause-all
returns-clause-all c = all-lines

pub returns-clause-last : goal.returns-clause-last
returns-clause-last c = last-lines
