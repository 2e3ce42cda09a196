-- What is reported about words that threads share, by their bits as they were loaded. This
-- project's own.
use Rattle.std.specs.Prelude.{ℕ, ◌*◌}
use Rattle.bloom_parts.specs.Estimates.{EstimatesItems}
use Rattle.bloom_parts.specs.FalsePositives.{BoundsPositives}
use Rattle.bloom_parts.specs.Made.{SharedWords}
use Rattle.bloom_parts.specs.declared.math.bracket.Bracket.{Bracket}
use Rattle.bloom_parts.specs.declared.math.estimate.Estimate.{Estimate}
use Rattle.bloom_steps.specs.Loaded.{CountsLoaded}

-- an estimate of the items in a filter, by how many bits were set in its words as they were loaded
pub record EstimatesWords (vector : SharedWords) (k : ℕ) (estimate : Estimate) : Type 0 where
  pub ones : ℕ
  pub counts : CountsLoaded vector ones
  pub estimates : EstimatesItems (64 * vector.count) k ones estimate

-- a bracket of the rate of a filter, by how many bits were set in its words as they were loaded
pub record BoundsWords (vector : SharedWords) (k : ℕ) (bracket : Bracket) : Type 0 where
  pub ones : ℕ
  pub counts : CountsLoaded vector ones
  pub bounds : BoundsPositives (64 * vector.count) k ones bracket
