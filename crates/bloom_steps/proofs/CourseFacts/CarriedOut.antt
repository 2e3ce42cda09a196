-- Courses whose records were carried out: two inserts of one fresh hash are one, and where one of
-- them answers otherwise they are none.
use Rattle.std.proofs.Common.{◌∷◌, [], arith, false, lit<, refl, true}
use Rattle.bloom_steps.proofs.Common.{IsPosition, are_in, Answer, Did, Or, CarriedOut, IsCourseOf, CourseTells, LawfulTells, IsScript}
use Rattle.bloom_steps.proofs.CourseFacts.Courses.{twins, twins_answering}
use Rattle.bloom_steps.proofs.CourseFacts.Inserts.{inserts_tell}
use Rattle.bloom_steps.proofs.CourseFacts.Lawful.{lawful-twins, twins-carried}
use Rattle.bloom_steps.proofs.RunLemmas.OwnScripts.{own_script}
use Rattle.bloom_steps.proofs.RunLemmas.CourseLaws.{course_law}
use Rattle.bloom_steps.proofs.RunLemmas.PlainCalls.{plain_course_law}

-- a step finds the word as it was, and no other
carried : CarriedOut (4 ∷ []) (Did 0 (Or 0 1) 4 (Answer false) ∷ []) (5 ∷ [])
    × (CarriedOut (4 ∷ []) (Did 0 (Or 0 1) 5 (Answer true) ∷ []) (5 ∷ []) → ⊥)
carried = (
  (lit< tt, (0, refl), refl),
  (λ (within, (given, finds), after). omega (arith, finds)),
)

-- the twins are a course, and where the first answers true they are none
is_course : IsCourseOf 1 (IsScript 1 2) twins
    × (IsCourseOf 1 (IsScript 1 2) (twins_answering true) → ⊥)
is_course = (
  record {
    count = refl;
    carried = twins-carried;
    calls = own_script 2 twins lawful-twins (omega arith) (omega arith);
  },
  (λ course. inserts_tell.1 (plain_course_law 1 2 (twins_answering true) course).inserts),
)

-- what every interleaving gives holds of the twins, and not where the first answers true
tells : CourseTells (IsPosition 64 2) (are_in 64 2) twins
    × (CourseTells (IsPosition 64 2) (are_in 64 2) (twins_answering true) → ⊥)
tells = (plain_course_law 1 2 twins is_course.0, λ told. inserts_tell.1 told.inserts)

-- and so does what a lawful course gives
lawful-tells : LawfulTells 2 twins × (LawfulTells 2 (twins_answering true) → ⊥)
lawful-tells = (
  course_law 2 twins (omega arith) (omega arith) lawful-twins,
  λ told. inserts_tell.1 told.each.inserts,
)
