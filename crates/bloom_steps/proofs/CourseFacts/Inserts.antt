-- What the theorem on the answers of inserts says of the worked courses.
use Rattle.std.proofs.Common.{Bool, true, refl, arith}
use Rattle.bloom_steps.proofs.Common.{content, Or, Insert, Running, Answer, InsertsTell, TurnsOneOn}
use Rattle.bloom_steps.proofs.CourseFacts.Courses.{twins, twins_answering}
use Rattle.bloom_steps.proofs.CourseFacts.Finished.{finished, step_at}
use Rattle.bloom_steps.proofs.CourseFacts.Lawful.{lawful-twins}
use Rattle.bloom_steps.proofs.RunLemmas.PlainCalls.{tells}

-- the first of the twins sets position 0
first-on : (answer : Bool) → TurnsOneOn (twins_answering answer) 0 0 5
unfolding content
first-on answer = record {
  m = 2;
  p = 0;
  ended = Running;
  later = omega arith;
  upto = omega arith;
  own = step_at (Or 0 1) 0 refl;
  on = refl;
}

-- the twins, which both answer false, set one each, and not where the first answers true
pub inserts_tell : InsertsTell twins
    × (InsertsTell (twins_answering true) → ⊥)
inserts_tell = (
  (tells 2 twins lawful-twins (omega arith) (omega arith)).inserts,
  (λ tell.
      let is =
      finished (twins_answering true) 0 (Insert 1) 0 5 (Answer true) refl (omega arith)
      (Or 0 1048576) 1048577 refl (λ e. cc) refl in
      let wrong = (tell 0 1 0 5 true is).1 (first-on true) in
      cc),
)
