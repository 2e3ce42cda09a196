-- Which parties of the worked courses run a call, and when.
use Rattle.std.proofs.Common.{◌≡◌, ◌∷◌, [], zero, suc, ℕ, take, true, false, refl, arith, Bool, ◌∙◌, sym, ltb, if◌then◌else◌, ap, ◌≢◌, ◌≤◌, List}
use Rattle.bloom_steps.proofs.Common.{both_ways, and_parts, ltb-true, ne_eqb, Record, runs, records_of, party_of, last_leaves_running, EveryCallEnded, OneAtATime}
use Rattle.bloom_steps.proofs.StepFacts.Members.{all_pass}
use Rattle.bloom_steps.proofs.CourseFacts.Courses.{in_turn_answering}

-- a party past all of some records' parties has no record among the first of them
pub none-past : (bound party : ℕ) (rs : List Record) (m : ℕ)
    → all_pass (λ i r. ltb (party_of r) bound) rs ≡ true → bound ≤ party
    → records_of party (take m rs) ≡ []
unfolding records_of
none-past bound party rs zero all past = refl
none-past bound party [] (suc m) all past = refl
none-past bound party (r ∷ rs) (suc m) all past =
    let parts =
    and_parts (ltb (party_of r) bound) (all_pass (λ i q. ltb (party_of q) bound) rs) all in
    let below = ltb-true (party_of r) bound parts.0 in
    let apart : party_of r ≢ party = λ e. omega (arith, e, below, past) in
    ap (λ b. if b then r ∷ records_of party (take m rs) else records_of party (take m rs))
    (ne_eqb (party_of r) party apart)
    ∙ none-past bound party rs m parts.1 past

-- a party past all of some records' parties runs no call
pub idle-past : (bound party : ℕ) (rs : List Record) (m : ℕ)
    → all_pass (λ i r. ltb (party_of r) bound) rs ≡ true → bound ≤ party
    → runs party (take m rs) ≡ false
idle-past bound party rs m all past =
    ap last_leaves_running (none-past bound party rs m all past)

-- each call of the union and the insert has ended
pub ended-in_turn : (answer : Bool) → EveryCallEnded (in_turn_answering answer).records
unfolding records_of
ended-in_turn answer zero = refl
ended-in_turn answer (suc zero) = refl
ended-in_turn answer (suc (suc party)) =
    idle-past 2 (suc (suc party)) (in_turn_answering answer).records 5 refl (omega arith)

-- the party that runs a call is the first up to the union's end, and then the second
runner : (answer : Bool) (m party : ℕ)
    → runs party (take m (in_turn_answering answer).records) ≡ true
    → party ≡ (if ltb m 4 then 0 else 1)
unfolding records_of
runner answer m (suc (suc party)) is =
    absurd
    (both_ways (runs (suc (suc party)) (take m (in_turn_answering answer).records))
    (idle-past 2 (suc (suc party)) (in_turn_answering answer).records m refl (omega arith)) is)
runner answer (suc zero) zero is = refl
runner answer (suc (suc zero)) zero is = refl
runner answer (suc (suc (suc zero))) zero is = refl
runner answer (suc (suc (suc (suc zero)))) (suc zero) is = refl
runner answer (suc (suc (suc (suc (suc (suc m)))))) zero is = absurd (both_ways false refl is)
runner answer (suc (suc (suc (suc (suc (suc m)))))) (suc zero) is = absurd (both_ways false refl is)
runner answer m party is = absurd (both_ways false refl is)

-- the union and the insert are made one at a time
pub one-in_turn : (answer : Bool) → OneAtATime (in_turn_answering answer).records
one-in_turn answer m p q a b = runner answer m p a ∙ sym (runner answer m q b)
