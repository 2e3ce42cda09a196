use Rattle.bloom_steps.proofs.RunLemmas.CourseLaws.{course_law}
use Rattle.bloom_steps.proofs.RunLemmas.PlainCalls.{plain_course_law}
use Rattle.bloom_steps.proofs.laws.interleavings.Goals as goal

pub returns-clause-lawful : goal.returns-clause-lawful
returns-clause-lawful c = course_law

pub returns-clause-carried : goal.returns-clause-carried
returns-clause-carried c = plain_course_law
