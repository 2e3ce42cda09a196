-- Estimates of filters with as many words.
use Rattle.std.proofs.Common.{◌≡◌, ℕ, ◌*◌, sym, subst}
use Rattle.bloom_parts.specs.Estimates.{EstimatesItems}
use Rattle.bloom_parts.specs.declared.math.estimate.Estimate.{Estimate}

-- an estimate for the bits of as many words is one for the bits of these
pub same-bits : {m n k ones : ℕ} {estimate : Estimate} → m ≡ n →
    EstimatesItems (64 * n) k ones estimate → EstimatesItems (64 * m) k ones estimate
same-bits {m} {n} {k} {ones} {estimate} same is =
    subst (λ w. EstimatesItems (64 * w) k ones estimate) (sym same) is
