-- What commands to a filter decide and reply, case by case. With two hashes the hash 1 has the
-- positions 0 and 40 among 128.
use Rattle.std.proofs.Common.{◌≡◌, true, false, ◌||◌, eqb, [], ◌∷◌, Some, None, refl}
use Rattle.bloom_parts.proofs.Common.{chain, positions, are_in}
use Rattle.bloom_parts.specs.Operations.{Insert, Contains, Clear, Union, Intersect, state_after, reply}
use Rattle.bloom_parts.proofs.Cases.{only}

-- an insert sets its positions and no other, a look-up none, a clear clears what was set before it,
-- a union keeps what was set, and an intersection only what the other has too
state_after-cases : (state_after 128 2 (only 3) (Insert 1 ∷ []) 40 ≡ true)
    × (state_after 128 2 (only 3) (Insert 1 ∷ []) 41 ≡ false)
    × (state_after 128 2 (only 3) (Contains 1 ∷ []) 0 ≡ false)
    × (state_after 128 2 (only 3) (Clear ∷ Insert 1 ∷ []) 3 ≡ false)
    × (state_after 128 2 (only 3) (Clear ∷ Insert 1 ∷ []) 40 ≡ true)
    × (state_after 128 2 (only 3) (Union (only 5) ∷ []) 3 ≡ true)
    × (state_after 128 2 (only 3) (Union (only 5) ∷ []) 5 ≡ true)
    × (state_after 128 2 (only 3) (Intersect (only 5) ∷ []) 3 ≡ false)
    × (state_after 128 2 (only 3) (Intersect (only 5) ∷ []) 5 ≡ false)
    × (state_after 128 2 (only 3) (Intersect (only 3) ∷ []) 3 ≡ true)
unfolding positions chain
state_after-cases = (refl, refl, refl, refl, refl, refl, refl, refl, refl, refl)

-- inserts and look-ups reply whether all their positions are set, and the others don't reply
reply-cases : (reply 128 2 (only 0) (Insert 1) ≡ Some false)
    × (reply 128 2 (λ p. eqb p 0 || eqb p 40) (Insert 1) ≡ Some true)
    × (reply 128 2 (only 40) (Contains 1) ≡ Some false)
    × (reply 128 2 (λ p. eqb p 0 || eqb p 40) (Contains 1) ≡ Some true)
    × (reply 128 2 (only 0) Clear ≡ None)
    × (reply 128 2 (only 0) (Intersect (only 0)) ≡ None)
unfolding are_in chain
reply-cases = (refl, refl, refl, refl, refl, refl)
