use Rattle.bloom_blocked.proofs.LineCourseLaws.{line_course_law}
use Rattle.bloom_blocked.proofs.LiveScriptLemmas.{live_script_law}
use Rattle.bloom_blocked.proofs.laws.interleavings_in_lines.Goals as goal

pub returns-clause-courses : goal.returns-clause-courses
returns-clause-courses c = line_course_law

pub returns-clause-live : goal.returns-clause-live
returns-clause-live c = live_script_law
