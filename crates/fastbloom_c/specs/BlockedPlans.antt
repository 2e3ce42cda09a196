-- Plans of blocked filters, and their refusals by number. The sizes are those of `bloom_blocked`.
-- That a zero part of the rate is refused first is this project's choice.
use Rattle.std.specs.Prelude.{◌≡◌, ℕ, max, Option, Some, None}
use Rattle.bloom_parts.specs.declared.error.FilterError.{FilterError}
use Rattle.bloom_parts.specs.declared.error.FilterError.TheVariants.{ZeroRate}
use Rattle.bloom_parts.specs.Rates.{rate_refusal}
use Rattle.bloom_blocked.specs.BlockedSizing.{IsSizeInLines, line_size_refusal}
use Rattle.fastbloom_c.specs.Plans.{code_or_zero}

-- why a plan in lines for items at the rate num / den is refused, if it is: for a zero part of the
-- rate, or else for the size
pub record IsRefusalInLinesFor (num den items : ℕ) (refusal : Option FilterError) : Type 0 where
  pub rate : rate_refusal num den ≡ Some ZeroRate → refusal ≡ Some ZeroRate
  pub size : rate_refusal num den ≡ None → (bits : ℕ)
      × IsSizeInLines (max 1 items) num den bits × (refusal ≡ line_size_refusal bits)

-- a plan in lines returns the number of its refusal, or 0
abbrev pub IsCodeInLinesFor : ℕ → ℕ → ℕ → ℕ → Type 0
IsCodeInLinesFor num den items code =
    (refusal : Option FilterError) × IsRefusalInLinesFor num den items refusal
    × (code ≡ code_or_zero refusal)
