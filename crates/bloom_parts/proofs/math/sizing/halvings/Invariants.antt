use Rattle.std.proofs.Common.{ℕ, ◌<◌}
use Rattle.bloom_parts.specs.Sizing.{IsEnough}
use Rattle.bloom_parts.proofs.math.sizing.halvings.Given as goal

-- none of those tried is enough
abbrev pub invariant-tried : goal.invariant-tried
invariant-tried l = (fewer : ℕ) → fewer < l.parts → ¬ IsEnough l.fn.rate.num l.fn.rate.den fewer
