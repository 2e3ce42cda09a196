-- How many positions the steps of the worked courses gain, and how many found their bit clear.
use Rattle.std.proofs.Common.{◌≡◌, ℕ, ◌∷◌, [], not, ◌&&◌, refl, arith, sym}
use Rattle.bloom_steps.proofs.Common.{sum_by, content, CountsGains, bits_gained, bits_new, count_below, EveryCall, goes_by_hash, plan_of, Course}
use Rattle.bloom_steps.proofs.CourseFacts.Finished.{every-call}
use Rattle.bloom_steps.proofs.CourseFacts.Courses.{twins}
use Rattle.bloom_steps.proofs.CourseFacts.Lawful.{lawful-twins}
use Rattle.bloom_steps.proofs.RunLemmas.Gained.{counts_gains}

-- the steps of the twins set two bits
twins-set : sum_by bits_gained twins.records ≡ 2
unfolding bits_new
twins-set = refl

-- the twins with another word in the end
abbrev ending : ℕ → Course
ending word = record twins { words = word ∷ [] }

-- how many positions such twins gain
abbrev gain : ℕ → ℕ
gain word = count_below 64 (λ p. content (word ∷ []) p && not (content (0 ∷ []) p))

-- with position 0 alone one, and with position 1 besides its own three
gained : (gain 1 ≡ 1) × (gain 1048579 ≡ 3)
unfolding content
gained = (refl, refl)

-- the twins gain as many positions as their steps set, and not one fewer or one more
gains : CountsGains twins
    × (CountsGains (ending 1) → ⊥)
    × (CountsGains (ending 1048579) → ⊥)
gains = (
  counts_gains 2 twins lawful-twins,
  λ counts. (let two = counts by_hash in omega (arith, sym twins-set, two, gained.0)),
  λ counts. (let two = counts by_hash in omega (arith, sym twins-set, two, gained.1)),
)
  where
    by_hash : EveryCall goes_by_hash twins.records
    by_hash = every-call (λ call. goes_by_hash (plan_of call)) twins.records refl
