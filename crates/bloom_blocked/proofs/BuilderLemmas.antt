-- What builders of blocked filters refuse.
use Rattle.std.proofs.Common.{◌≡◌, ℕ, ◌^◌, max, Option, Some}
use Rattle.std.proofs.lemmas.Bool.{le-leb}
use Rattle.bloom_parts.specs.declared.error.FilterError.{FilterError}
use Rattle.bloom_parts.specs.declared.error.FilterError.TheVariants.{SizeOverflow}
use Rattle.bloom_parts.specs.Rates.{num_of, den_of}
use Rattle.bloom_plain.specs.Builders.{RateStart, RefusesAs}
use Rattle.bloom_blocked.proofs.Common.{size_of-rate, IsSizeInLines, IsTooLargeInLines, IsSizeInLinesOf, line_size_refusal}

-- a size that is too large is refused as such
pub refused-large : {S : Type 0} (inside start : RateStart S) (expected items : ℕ)
    (error : Option FilterError) → inside ≡ start → items ≡ max expected 1
    → IsTooLargeInLines items (num_of inside.rate) (den_of inside.rate)
    → error ≡ Some SizeOverflow
    → (size : ℕ) × IsSizeInLinesOf start expected size
    × RefusesAs (line_size_refusal size) error
refused-large inside start expected items error is_start is_items (bits, sized, large) is = (
  bits,
  size_of-rate IsSizeInLines inside start expected items bits is_start is_items sized,
  rw (le-leb (2 ^ 64) bits large) is,
)
