-- How many items a filter that threads share has, and how often it errs, by how many bits were set
-- in its words as they were loaded. This project's own.
use Rattle.std.specs.Prelude.{ℕ, ◌*◌}
use Rattle.bloom_parts.specs.Estimates.{EstimatesItems}
use Rattle.bloom_parts.specs.FalsePositives.{BoundsPositives}
use Rattle.bloom_parts.specs.declared.math.bracket.Bracket.{Bracket}
use Rattle.bloom_parts.specs.declared.math.estimate.Estimate.{Estimate}
use Rattle.bloom_steps.specs.Loaded.{CountsLoaded}
use Rattle.bloom_plain.specs.SharedFilters.{SharedFilter}

-- an estimate of the items in a filter, by how many bits were set in its words as they were loaded
pub record EstimatesLoaded {S : Type 0} (f : SharedFilter S) (estimate : Estimate) : Type 0 where
  pub ones : ℕ
  pub counts : CountsLoaded f.words ones
  pub estimates : EstimatesItems (64 * f.words.count) f.hashes ones estimate

-- a bracket of the rate of a filter, by how many bits were set in its words as they were loaded
pub record BoundsLoaded {S : Type 0} (f : SharedFilter S) (bracket : Bracket) : Type 0 where
  pub ones : ℕ
  pub counts : CountsLoaded f.words ones
  pub bounds : BoundsPositives (64 * f.words.count) f.hashes ones bracket
