-- Which records follow a schedule, and which not.
use Rattle.std.proofs.Common.{◌∷◌, [], List, ℕ, refl, arith, inl, inr}
use Rattle.bloom_steps.proofs.Common.{Zero, Insert, Clear, Done, Event, Begin, Go, Began, Did, Course, Follows, FollowsFrom, no_event, next_event, records_of}

-- events of which two alone make sense to one party: the beginning of its clear, and its step
abbrev pub schedule : List Event
schedule =
    Go 0 0 ∷ Begin 7 Clear ∷ Begin 0 Clear ∷ Begin 0 (Insert 0) ∷ Go 0 0 ∷ Go 0 0 ∷ []

-- two events that make sense leave two records
pub two-records : FollowsFrom 1 [] schedule (Began 0 Clear ∷ Did 0 (Zero 0) 0 Done ∷ [])
unfolding records_of
two-records =
    next_event [] (Go 0 0) _ [] _ (inr (record { idle = refl; same = refl }))
    (next_event [] (Begin 7 Clear) _ [] _
    (inr (record { busy = λ l. absurd (omega (arith, l)); same = refl }))
    (next_event [] (Begin 0 Clear) _ (Began 0 Clear ∷ []) _
    (inl (record { within = omega arith; idle = refl; same = refl }))
    (next_event _ (Begin 0 (Insert 0)) _ [] _ (inr (record { busy = λ l. refl; same = refl }))
    (next_event _ (Go 0 0) _ (Did 0 (Zero 0) 0 Done ∷ []) _
    (inl (record {
      running = refl;
      step = Zero 0;
      found = 0;
      ended = Done;
      same = refl;
      reads = λ i e. refl;
    }))
    (next_event _ (Go 0 0) _ [] _ (inr (record { idle = refl; same = refl })) (no_event _))))))

-- a clear of one word that begins with these words
abbrev pub cleared : List ℕ → Course
cleared start = record {
  start = start;
  records = Began 0 Clear ∷ Did 0 (Zero 0) 0 Done ∷ [];
  words = 0 ∷ [];
}

-- the course with the words given follows the schedule, and one with other words does not
pub follows : Follows 1 (9 ∷ []) schedule (cleared (9 ∷ []))
    × (Follows 1 (9 ∷ []) schedule (cleared (8 ∷ [])) → ⊥)
follows = (
  record { begins = refl; events = two-records },
  (λ other. let begins = other.begins in cc),
)
