-- What the theorem on growing runs says of the worked courses.
use Rattle.std.proofs.Common.{◌∷◌, [], List, zero, suc, ℕ, refl, arith, inl, inr}
use Rattle.bloom_steps.proofs.Common.{chain, content, EndsWithAll, IsInserted, EveryCallEnded, records_of, turns_none_off, plan_of}
use Rattle.bloom_steps.proofs.CourseFacts.Courses.{twins}
use Rattle.bloom_steps.proofs.CourseFacts.Finished.{every-call}
use Rattle.bloom_steps.proofs.CourseFacts.Lawful.{lawful-twins}
use Rattle.bloom_steps.proofs.CourseFacts.Parties.{idle-past}
use Rattle.bloom_steps.proofs.RunLemmas.Grows.{ends_with_all}

-- position 20 was inserted, whatever the words in the end
inserted : (words : List ℕ) → IsInserted 2 (record twins { words = words }) 20
unfolding chain
inserted words = record {
  m = 1;
  party = 1;
  hash = 1;
  begins = refl;
  position = record { index = 1; below = omega arith; here = refl };
}

-- every call of the twins has ended
ended : EveryCallEnded twins.records
unfolding records_of
ended zero = refl
ended (suc zero) = refl
ended (suc (suc party)) = idle-past 2 (suc (suc party)) twins.records 6 refl (omega arith)

-- the twins end with all of their positions, and not where one of them is clear in the end
ends : EndsWithAll 2 twins
    × (EndsWithAll 2 (record twins { words = 1 ∷ [] }) → ⊥)
unfolding content chain
ends = (
  ends_with_all 2 twins lawful-twins,
  (λ told.
      let passes = every-call (λ call. turns_none_off (plan_of call)) twins.records refl in
      let on = (told passes ended 20).1 (inr (inl (inserted (1 ∷ [])))) in
      cc),
)
