-- Sizes in lines.
use Rattle.std.proofs.Common.{◌≡◌, ◌≤◌, ◌<◌, ℕ, ◌+◌, ◌-◌, ◌*◌, ◌^◌, ap, refl, ◌∙◌, arith}
use Rattle.std.specs.Int.{div_ceil}
use Rattle.std.proofs.lemmas.Grind.{div_ceil_times}
use Rattle.bloom_parts.specs.Sizing.{IsSizeFor, IsTooLarge}
use Rattle.bloom_blocked.specs.BlockedSizing.{IsTooLargeInLines, bits_in_lines, hundredths_more}

-- a size in lines is no less than that of a Bloom filter
no-less : (plain items : ℕ) → plain ≤ bits_in_lines plain items
no-less plain items =
    let more = hundredths_more plain items in
    let ceil = (div_ceil_times (plain * (100 + more)) 100 (omega arith)).0 in
    omega (arith, ceil)

-- where the size of a Bloom filter is too large, that in lines is
pub large-in_lines : (items num den : ℕ) → IsTooLarge items num den
    → IsTooLargeInLines items num den
large-in_lines items num den (plain, sized, large) = (
  bits_in_lines plain items,
  (plain, sized, refl),
  omega (arith, large, no-less plain items),
)

-- a size in lines that doesn't fit 64 bits is too large
pub sized-in_lines : (items num den plain more size : ℕ) → IsSizeFor items num den plain
    → more ≡ hundredths_more plain items → size ≡ div_ceil (plain * (100 + more)) 100
    → 2 ^ 64 - 1 < size → IsTooLargeInLines items num den
sized-in_lines items num den plain more size sized is_more is_size past = (
  size,
  (plain, sized, is_size ∙ ap (λ m. div_ceil (plain * (100 + m)) 100) is_more),
  omega (arith, past),
)
