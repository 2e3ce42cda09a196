-- What the law on one course says of a schedule.
use Rattle.std.proofs.Common.{◌≡◌, ◌∷◌, [], List, ℕ, zero, suc, refl, arith, lit<, sym, subst}
use Rattle.bloom_steps.proofs.Common.{Zero, Clear, Done, IsScript, Taken, AtMostOne, CallAfterCall, Course, Follows, IsLawful, no_call, records_of, whole_call}
use Rattle.bloom_steps.proofs.StepFacts.Members.{one-step, took}
use Rattle.bloom_steps.proofs.CourseFacts.Lawful.{carried, one-word}
use Rattle.bloom_steps.proofs.CourseFacts.Parties.{none-past}
use Rattle.bloom_steps.proofs.CourseFacts.Schedules.{cleared, follows, schedule}

-- a clear of one word
abbrev zeroed : List Taken
zeroed = took (Zero 0) 0 Done ∷ []

-- the one step is a whole clear
zeroed-script : IsScript 1 1 Clear zeroed
zeroed-script = one-step 1 1 _ _ refl refl tt refl

-- the calls of each party of a clear of one word
calls : (party : ℕ) → CallAfterCall 1 1 party (records_of party (cleared (9 ∷ [])).records)
unfolding records_of
calls zero = whole_call Clear zeroed [] zeroed-script no_call
calls (suc party) =
    subst (CallAfterCall 1 1 (suc party))
    (sym (none-past 1 (suc party) (cleared (9 ∷ [])).records 2 refl (omega arith))) no_call

-- the course that follows the schedule is lawful
lawful : IsLawful 1 (cleared (9 ∷ []))
lawful =
    carried 1 (cleared (9 ∷ [])) (lit< tt, (0, refl), refl) refl refl (one-word 0 (lit< tt)) calls

-- the course that follows the schedule is the only lawful one
only : AtMostOne → (other : Course) → IsLawful 1 other → Follows 1 (9 ∷ []) schedule other
    → other ≡ cleared (9 ∷ [])
only law other is follow =
    law 1 1 (9 ∷ []) schedule other (cleared (9 ∷ [])) is follow lawful follows.0
