-- Plans of filters, and their refusals by number. The sizes are those of `bloom_parts`. That a zero
-- part of the rate is refused first is this project's choice.
use Rattle.std.specs.Prelude.{◌≡◌, ℕ, max, Option, Some, None}
use Rattle.bloom_parts.specs.declared.error.FilterError.{FilterError}
use Rattle.bloom_parts.specs.declared.error.FilterError.TheVariants.{ZeroRate}
use Rattle.bloom_parts.specs.Codes.{code_of}
use Rattle.bloom_parts.specs.Rates.{rate_refusal}
use Rattle.bloom_parts.specs.Sizing.{IsSizeFor}
use Rattle.bloom_plain.specs.Builders.{size_refusal}

-- why a plan for items at the rate num / den is refused, if it is: for a zero part of the rate, or
-- else for the size
pub record IsRefusalFor (num den items : ℕ) (refusal : Option FilterError) : Type 0 where
  pub rate : rate_refusal num den ≡ Some ZeroRate → refusal ≡ Some ZeroRate
  pub size : rate_refusal num den ≡ None
      → (bits : ℕ) × IsSizeFor (max 1 items) num den bits × (refusal ≡ size_refusal bits)

-- the number of a refusal, or 0 where nothing is refused
abbrev pub code_or_zero : Option FilterError → ℕ
code_or_zero None = 0
code_or_zero (Some error) = code_of error

-- a plan returns 0, or the number of its refusal
abbrev pub IsCodeFor : ℕ → ℕ → ℕ → ℕ → Type 0
IsCodeFor num den items code =
    (refusal : Option FilterError) × IsRefusalFor num den items refusal
    × (code ≡ code_or_zero refusal)
