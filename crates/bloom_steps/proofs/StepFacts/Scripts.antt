-- What is a script of a call, and steps near one that are none. Of 64 bits hash 1 has the
-- positions 0 and 20.
use Rattle.std.proofs.Common.{◌∷◌, [], List, true, false, refl, arith}
use Rattle.bloom_steps.proofs.Common.{chain, Or, Insert, Running, Answer, Taken, IsScript}
use Rattle.bloom_steps.proofs.StepFacts.Members.{each-member, took}
use Rattle.bloom_steps.proofs.StepLemmas.Finding.{ends-off}

-- an insert of a hash whose first bit was set and whose second was clear
abbrev pub insert : List Taken
insert = took (Or 0 1) 1 Running ∷ took (Or 0 1048576) 1 (Answer false) ∷ []

-- these two steps are a whole insert, and not where it answers true
pub is_script : IsScript 1 2 (Insert 1) insert
    × (IsScript 1 2 (Insert 1) (took (Or 0 1) 1 Running ∷ took (Or 0 1048576) 1 (Answer true)
    ∷ []) → ⊥)
unfolding chain
is_script = (
  record {
    count = refl;
    steps = each-member _ insert (refl, (refl, tt));
    stops = tt;
    running = each-member _ insert ((λ l. refl), ((λ l. absurd (omega (arith, l))), tt));
    last =
        each-member _ insert
        ((λ l. absurd (omega (arith, l))), ((λ l. ends-off 1 1 insert 1 _ refl refl), tt));
  },
  (λ is.
      let last = is.last 1 _ refl refl in
      let off = last.2.1 (1, took (Or 0 1048576) 1 (Answer true), refl, refl) in cc),
)
