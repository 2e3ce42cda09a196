-- Estimates of filters of one shape.
use Rattle.std.proofs.Common.{ℕ, ◌*◌, sym, subst}
use Rattle.bloom_parts.specs.Estimates.{EstimatesItems}
use Rattle.bloom_parts.specs.declared.math.estimate.Estimate.{Estimate}
use Rattle.bloom_plain.specs.Filter.{Filter, SameShape, num_bits_of}

-- an estimate of one of them is one for the bits and hashes of the other
pub same-estimate : {S : Type 0} {f g : Filter S} {ones : ℕ} {estimate : Estimate} → SameShape f g →
    EstimatesItems (num_bits_of g) g.hashes ones estimate →
    EstimatesItems (num_bits_of f) f.hashes ones estimate
same-estimate {S} {f} {g} {ones} {estimate} same is =
    subst (λ k. EstimatesItems (num_bits_of f) k ones estimate) (sym same.hashes)
    (subst (λ w. EstimatesItems (64 * w) g.hashes ones estimate) (sym same.words) is)
