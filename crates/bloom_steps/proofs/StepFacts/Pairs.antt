-- Scripts of calls that take the other filter's words in turn.
use Rattle.std.proofs.Common.{◌∷◌, [], List, ℕ, refl, arith}
use Rattle.bloom_steps.proofs.Common.{Or, Other, Union, Running, Done, Taken, IsScript}
use Rattle.bloom_steps.proofs.StepFacts.Members.{each-member, took}

-- a read of the other filter, and the `|` of what it found
abbrev pub read_write : ℕ → List Taken
read_write other = took (Other 0) other Running ∷ took (Or 0 other) 0 Done ∷ []

-- these two steps are a whole union of one word
pub read_write-script : (k other : ℕ) → IsScript 1 k Union (read_write other)
read_write-script k other = record {
  count = refl;
  steps = each-member _ (read_write other) (refl, (refl, tt));
  stops = tt;
  running = each-member _ (read_write other) ((λ l. refl), ((λ l. absurd (omega (arith, l))), tt));
  last = each-member _ (read_write other) ((λ l. absurd (omega (arith, l))), ((λ l. refl), tt));
}
