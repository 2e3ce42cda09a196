-- Hashes that wait to be inserted into something that takes hashes. This project's own.
use Rattle.std.specs.Prelude.{◌≡◌, ℕ, List, [], ◌∷◌, ◌++◌}

-- a hash joined those that wait to be inserted: from old to new the first of all these were
-- inserted, and the others still wait
pub record Queues {F : Type 0} (Took : F → List ℕ → F → Type 0) (old : F) (waiting : List ℕ)
    (hash : ℕ) (new : F) (more : List ℕ) : Type 0 where
  pub gone : List ℕ
  pub cut : waiting ++ hash ∷ [] ≡ gone ++ more
  pub did : Took old gone new
