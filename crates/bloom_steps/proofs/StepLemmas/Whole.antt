-- Whole scripts and beginnings: a beginning runs on, a whole script has ended, so no list is both.
use Rattle.std.proofs.Common.{[], ◌+◌, ◌∙◌, ◌∷◌, ◌≡◌, ◌≢◌, ◌≤◌, List, None, Some, ap, arith, length, length-append, refl, slice_get, suc, ℕ}
use Rattle.bloom_steps.proofs.Common.{member-front, slice_get_within, Call, Done, End, Running, LooksAt, Plan, TurnsOn, plan_of, IsBeginning, IsLastEnd, IsScript, Last, Taken, answer_of, answer_of_end, HasCount}

-- how a call stands after some steps
abbrev pub end_after : List Taken → End
end_after [] = Running
end_after (t ∷ []) = t.ended
end_after (t ∷ (u ∷ rest)) = end_after (u ∷ rest)

-- a plan has a step
count_some : (w k count : ℕ) (plan : Plan) → 1 ≤ w → 1 ≤ k → HasCount w k plan count → 1 ≤ count
count_some w k count (LooksAt h) some_words some_hashes is = is.0
count_some w k count plan some_words some_hashes is = omega (arith, is)

-- a whole script has a step
pub script_some : (w k : ℕ) (call : Call) (s : List Taken) → 1 ≤ w → 1 ≤ k → IsScript w k call s
    → 1 ≤ length s
script_some w k call s some_words some_hashes is =
    count_some w k (length s) (plan_of call) some_words some_hashes is.count

-- the last step of a script leaves nothing running
pub last-not_running : (w : ℕ) (plan : Plan) (s : List Taken) (i : ℕ) (t : Taken)
    → slice_get s i ≡ Some t → i + 1 ≡ length s → IsLastEnd w plan s t.ended → t.ended ≢ Running
last-not_running w (TurnsOn h) s i t g l (reply, is, off) f = cc
last-not_running w (LooksAt h) s i t g l e f = let is = e i t g l in cc
last-not_running w plan s i t g l e f = cc

-- every step of a beginning leaves the call running
pub beginning_runs : (w k : ℕ) (call : Call) (s : List Taken) (i : ℕ) (t : Taken)
    → IsBeginning w k call s → slice_get s i ≡ Some t → t.ended ≡ Running
beginning_runs w k call s i t b g =
    let inside = slice_get_within s i t g in
    let longer = length-append s (b.next ∷ b.rest) in
    b.script.running i t (member-front s (b.next ∷ b.rest) t i g) (omega (arith, longer, inside))

-- the last of some steps, which says how they end
pub record LastOf (s : List Taken) : Type 0 where
  pub index : ℕ
  pub step : Taken
  pub is_last : index + 1 ≡ length s
  pub stands : slice_get s index ≡ Some step
  pub ends : end_after s ≡ step.ended
  pub answers : answer_of s ≡ answer_of_end step.ended

-- some steps have a last one
pub last-of : (s : List Taken) → 1 ≤ length s → LastOf s
last-of [] some = absurd (omega (arith, some))
last-of (t ∷ []) some =
    record { index = 0; step = t; is_last = refl; stands = refl; ends = refl; answers = refl }
last-of (t ∷ (u ∷ rest)) some =
    let last = last-of (u ∷ rest) (omega arith) in
    record {
      index = suc last.index;
      step = last.step;
      is_last = omega (arith, last.is_last);
      stands = last.stands;
      ends = last.ends;
      answers = last.answers;
    }

-- a whole script is no beginning
pub not_both : (w k : ℕ) (call : Call) (s : List Taken) → 1 ≤ w → 1 ≤ k
    → IsScript w k call s → IsBeginning w k call s → ⊥
not_both w k call s some_words some_hashes is begun =
    let last = last-of s (script_some w k call s some_words some_hashes is) in
    last-not_running w (plan_of call) s last.index last.step last.stands last.is_last
    (is.last last.index last.step last.stands last.is_last)
    (beginning_runs w k call s last.index last.step begun last.stands)

-- a beginning answers nothing
pub answer_of-beginning : (w k : ℕ) (call : Call) (s : List Taken) → IsBeginning w k call s
    → answer_of s ≡ None
answer_of-beginning w k call [] begun = refl
answer_of-beginning w k call (u ∷ s) begun =
    let last = last-of (u ∷ s) (omega arith) in
    last.answers
    ∙ ap answer_of_end (beginning_runs w k call (u ∷ s) last.index last.step begun last.stands)

-- steps that end with `Done` have no answer
pub silent : (s : List Taken) → Last s (λ i t. t.ended ≡ Done) → answer_of s ≡ None
silent [] ends = refl
silent (t ∷ rest) ends =
    let last = last-of (t ∷ rest) (omega arith) in
    last.answers ∙ ap answer_of_end (ends last.index last.step last.stands last.is_last)
